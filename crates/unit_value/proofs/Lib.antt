pub mod Orders
mod Powers
mod Exponents
mod Wholes
mod Signs
