pub mod Changing
pub mod Ordering
pub mod Ranking
pub mod SetBits
pub mod Wanting
