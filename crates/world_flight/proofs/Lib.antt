pub mod Flights
pub mod Indexing
pub mod Rising
pub mod Tending
