pub mod Closed
pub mod FirstMatch
