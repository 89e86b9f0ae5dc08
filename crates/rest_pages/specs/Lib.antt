pub mod Cluster
pub mod Configuration
pub mod Failsafe
pub mod History
pub mod Laws
pub mod Patroni
pub mod Tags
