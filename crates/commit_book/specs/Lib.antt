pub mod Deliveries
pub mod Example
pub mod Flights
pub mod Hearing
pub mod Keys
pub mod Waiting
