pub mod Idling
pub mod Played
pub mod Silence
pub mod Whole
