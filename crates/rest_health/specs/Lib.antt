pub mod Bits
pub mod Health
pub mod Laws
pub mod Statuses
pub mod Words
