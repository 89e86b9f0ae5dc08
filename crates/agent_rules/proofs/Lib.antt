pub mod Taking
pub mod Turning
pub mod Reaching
pub mod Grounds
pub mod GrantGrounds
pub mod InputGrounds
pub mod OutOfReach
pub mod Pauses
