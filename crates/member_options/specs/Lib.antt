pub mod Hosts
pub mod Margins
pub mod OptionReading
pub mod Options
pub mod Priorities
pub mod Ranges
