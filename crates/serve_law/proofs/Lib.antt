pub mod Acting
pub mod Apart
pub mod Asking
pub mod Owing
pub mod Tabled
pub mod Telling
pub mod Waiting
