pub mod Asking
pub mod Laws
pub mod Paths
pub mod Serving
