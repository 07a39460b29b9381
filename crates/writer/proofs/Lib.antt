pub mod Message
pub mod Parts
pub mod Runs
pub mod Steps
