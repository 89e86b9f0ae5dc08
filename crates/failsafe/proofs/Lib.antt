pub mod Members
pub mod Hearing
pub mod Present
