pub mod Receiving
pub mod Served
