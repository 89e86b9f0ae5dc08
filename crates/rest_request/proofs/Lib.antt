pub mod Digits
pub mod Heads
pub mod Lengths
pub mod Readings
pub mod Tokens
