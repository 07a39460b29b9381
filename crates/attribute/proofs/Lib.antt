pub mod Agreement
pub mod Dictionaries
