mod Characters
mod FirstByte
pub mod Answers
