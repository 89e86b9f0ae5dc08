pub mod Lines
pub mod Rooms
pub mod Rounding
pub mod Words
