pub mod Tools
pub mod Counting
