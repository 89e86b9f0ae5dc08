pub mod Errors
pub mod LineParts
pub mod Showing
