pub mod Acks
pub mod Enough
pub mod Lists
pub mod News
pub mod Reaching
pub mod Rewinds
