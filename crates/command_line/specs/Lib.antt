pub mod Commands
pub mod Drawing
pub mod Limits
pub mod Members
pub mod Status
