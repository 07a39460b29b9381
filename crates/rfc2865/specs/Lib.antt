pub mod Types
pub mod Attribute
pub mod Records
pub mod Packet
pub mod Writer
pub mod Seen
pub mod Extremal
pub mod Broken
