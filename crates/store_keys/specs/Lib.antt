pub mod Defaults
pub mod Holders
pub mod Settings
pub mod TxnKinds
pub mod Words
