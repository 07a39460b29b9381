pub mod Answers
pub mod Fill
