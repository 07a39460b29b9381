pub mod Fields
pub mod Fronts
pub mod Refusals
