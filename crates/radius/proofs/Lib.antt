mod Packets
pub mod AnswerOf
