pub mod Rows
pub mod FailsafeRows
pub mod Grants
pub mod Bounds
