pub mod OptionWords
pub mod Places
