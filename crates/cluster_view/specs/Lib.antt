pub mod KeyValues
pub mod Naming
pub mod Roles
pub mod Snapshots
