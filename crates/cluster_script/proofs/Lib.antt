pub mod Behind
pub mod Counting
pub mod Finishing
pub mod FirstWords
pub mod Spelled
