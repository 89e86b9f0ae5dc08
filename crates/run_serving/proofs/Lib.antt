pub mod Apart
pub mod Closing
pub mod Received
pub mod Shown
pub mod Visiting
