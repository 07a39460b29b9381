pub mod Levels
pub mod Counts
pub mod Lent
