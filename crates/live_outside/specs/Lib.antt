pub mod Arrivals
pub mod Memory
