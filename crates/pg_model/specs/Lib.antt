pub mod CatchingUp
pub mod Facts
pub mod Replication
pub mod Rewinding
pub mod Running
pub mod Status
