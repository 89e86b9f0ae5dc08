pub mod Connections
pub mod Answers
