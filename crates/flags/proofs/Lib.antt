pub mod Joins
pub mod Masks
