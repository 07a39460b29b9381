pub mod Answers
pub mod Emitting
