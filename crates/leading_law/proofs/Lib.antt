pub mod Turns
pub mod Dropping
pub mod Sending
pub mod Outputs
pub mod Inputs
