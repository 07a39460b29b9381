pub mod Answers
pub mod Tests
pub mod AnswerOf
