mod Filling
mod OwnRecord
mod OtherKinds
mod Entering
pub mod AnswerOf
pub mod Answered
