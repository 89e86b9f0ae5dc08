pub mod FreeKey
pub mod Beginning
pub mod Handovers
pub mod TurnReads
