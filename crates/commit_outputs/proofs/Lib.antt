pub mod Covering
pub mod Sending
pub mod Stopping
pub mod Beginning
pub mod Restarting
pub mod Alone
pub mod Page
