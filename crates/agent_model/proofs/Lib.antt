pub mod Judging
pub mod Waiting
