pub mod Fenced
pub mod KeptCommits
pub mod OnePrimary
pub mod OneWriter
