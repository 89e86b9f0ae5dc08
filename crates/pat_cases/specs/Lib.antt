pub mod Cases
pub mod Matches
