pub mod Calls
pub mod Doors
pub mod Memory
