pub mod Heads
pub mod Phrases
