pub mod Memory
pub mod Outside
pub mod Prints
