pub mod Matches
mod Rows
pub mod Grammar
pub mod Prefixes
pub mod Lines
