pub mod Roles
pub mod Room
pub mod Turns
