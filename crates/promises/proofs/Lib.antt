pub mod OneOutcome
pub mod Outcomes
mod Acceptance
pub mod Ways
pub mod Refusals
pub mod Decoder
pub mod RoundTrip
pub mod ReadBack
pub mod Index
pub mod Editions
pub mod UnitValues
pub mod Utf8
pub mod Words
pub mod Times
pub mod Broken
pub mod Packets
pub mod Parents
mod Tables
pub mod Joining
pub mod JoinedRefusals
pub mod JoinedRuns
pub mod JoinedAttributes
