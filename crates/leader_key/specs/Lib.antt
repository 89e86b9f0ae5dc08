pub mod Lease
pub mod Watchdog
