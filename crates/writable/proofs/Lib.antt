pub mod OneAnswer
mod Writing
