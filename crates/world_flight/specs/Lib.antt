pub mod FlightIndex
pub mod Launches
pub mod Rising
