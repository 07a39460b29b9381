pub mod Answer
pub mod Refusals
