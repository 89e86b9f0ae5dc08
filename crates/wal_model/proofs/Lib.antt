pub mod Chains
pub mod Entries
pub mod Growth
pub mod Lookups
pub mod Points
pub mod Runs
pub mod Successions
