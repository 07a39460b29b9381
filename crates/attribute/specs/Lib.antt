pub mod Attributes
pub mod ByTable
pub mod Kinds
