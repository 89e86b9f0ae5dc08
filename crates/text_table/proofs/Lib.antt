pub mod Placing
pub mod Rules
pub mod Standing
pub mod Widths
