pub mod Example
pub mod Flights
pub mod Groups
pub mod Machines
pub mod Sending
pub mod Waiting
