pub mod Joining
pub mod Schedule
pub mod Steady
pub mod Lasting
