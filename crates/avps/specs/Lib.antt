pub mod Fill
pub mod Answers
