pub mod Asks
pub mod Hearings
pub mod Holding
pub mod Listing
