pub mod Checks
pub mod Lags
pub mod Laws
pub mod Members
pub mod Turns
