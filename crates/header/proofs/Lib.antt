pub mod AnswerOf
pub mod HeaderAlone
pub mod Bodies
