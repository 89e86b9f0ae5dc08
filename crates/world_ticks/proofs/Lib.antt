pub mod Expiring
pub mod Completing
pub mod Bare
