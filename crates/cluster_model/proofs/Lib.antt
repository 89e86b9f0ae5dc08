pub mod Staying
pub mod Places
pub mod Lists
pub mod Founds
pub mod Commanding
pub mod Outputs
