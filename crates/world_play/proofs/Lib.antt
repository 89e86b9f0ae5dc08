pub mod Changing
pub mod Numbering
pub mod Passing
pub mod Arriving
pub mod Lulls
