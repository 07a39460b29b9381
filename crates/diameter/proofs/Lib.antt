pub mod Bodies
pub mod AnswerOf
