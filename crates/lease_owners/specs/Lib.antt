pub mod Asking
pub mod Owning
pub mod Kept
