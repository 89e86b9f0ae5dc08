pub mod Run
pub mod Visits
pub mod Watches
