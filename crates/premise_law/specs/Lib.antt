pub mod Feeding
pub mod Passing
pub mod TakingOver
