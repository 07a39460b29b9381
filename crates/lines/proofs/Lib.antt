pub mod Decimals
pub mod Dumps
pub mod Lines
pub mod Puts
pub mod Sizes
