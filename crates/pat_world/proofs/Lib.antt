pub mod IdleTicks
pub mod OneWriter
pub mod Fenced
pub mod KeptCommits
pub mod Stepping
pub mod Running
