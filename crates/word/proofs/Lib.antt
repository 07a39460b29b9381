pub mod Absent
pub mod Part
pub mod Turned
pub mod LastFirst
