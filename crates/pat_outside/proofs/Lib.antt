pub mod Contents
pub mod Printing
