pub mod Carried
pub mod Sleeping
pub mod Waking
