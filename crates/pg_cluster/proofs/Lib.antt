pub mod Clusters
pub mod Completions
pub mod News
pub mod Pairs
pub mod Rewinds
pub mod Rounds
pub mod Sights
pub mod Streams
