pub mod Filling
pub mod Ticks
