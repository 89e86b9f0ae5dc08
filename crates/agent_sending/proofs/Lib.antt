pub mod MaySend
pub mod StayingSends
pub mod Sending
pub mod CheckingWakes
pub mod Checking
pub mod Asking
