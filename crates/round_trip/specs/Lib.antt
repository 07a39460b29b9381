pub mod Forests
pub mod Rules
pub mod Members
pub mod Tables
pub mod Trip
pub mod Tops
