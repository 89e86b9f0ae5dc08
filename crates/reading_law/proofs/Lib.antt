pub mod Commits
pub mod Forms
pub mod Named
pub mod Stores
