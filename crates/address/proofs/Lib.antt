pub mod OneFound
pub mod Shown
