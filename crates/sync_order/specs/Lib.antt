pub mod Grown
pub mod Order
