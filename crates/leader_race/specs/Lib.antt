pub mod Bars
pub mod Eligibility
pub mod Outcome
pub mod Peers
