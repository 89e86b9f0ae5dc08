pub mod Carrying
pub mod Endings
pub mod Room
