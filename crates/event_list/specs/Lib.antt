pub mod Kept
pub mod Listed
pub mod Marks
pub mod Silence
