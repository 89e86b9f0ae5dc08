pub mod Faults
pub mod Lines
pub mod Numbers
pub mod Tokens
pub mod Words
