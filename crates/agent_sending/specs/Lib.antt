pub mod Modes
pub mod Asking
