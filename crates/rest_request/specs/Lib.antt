pub mod Answers
pub mod ContentLength
pub mod Reading
