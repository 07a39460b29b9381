pub mod Asked
pub mod Packets
