pub mod Grounds
pub mod OutOfReach
pub mod Pauses
pub mod Turns
