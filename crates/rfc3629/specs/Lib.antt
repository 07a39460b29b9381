pub mod Abnf
pub mod Syntax
pub mod Prefix
pub mod Utf8
