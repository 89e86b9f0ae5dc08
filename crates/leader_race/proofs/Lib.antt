pub mod Barring
pub mod Winning
