pub mod Asked
pub mod Filling
pub mod Literals
pub mod Parsing
