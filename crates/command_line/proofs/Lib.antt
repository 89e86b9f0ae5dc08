pub mod Input
pub mod Naming
pub mod Telling
