pub mod FreeKey
pub mod Handovers
pub mod TurnReads
