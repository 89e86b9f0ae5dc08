pub mod Matching
pub mod Sound
pub mod Happening
pub mod Acting
