pub mod Members
pub mod Promise
pub mod Parts
