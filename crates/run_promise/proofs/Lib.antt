pub mod Upholding
pub mod Members
pub mod Walking
