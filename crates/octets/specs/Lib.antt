pub mod Octets
pub mod Run
pub mod AtHand
