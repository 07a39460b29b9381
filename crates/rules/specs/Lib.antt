pub mod Checking
pub mod Shifting
