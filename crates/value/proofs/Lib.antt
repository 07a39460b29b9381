pub mod ReadAs
pub mod Shown
