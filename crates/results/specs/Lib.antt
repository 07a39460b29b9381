pub mod Results
pub mod Packets
