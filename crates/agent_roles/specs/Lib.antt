pub mod Powers
pub mod Seen
pub mod Asks
