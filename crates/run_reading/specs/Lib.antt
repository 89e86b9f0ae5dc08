pub mod Answers
pub mod Forms
pub mod Runs
pub mod Told
