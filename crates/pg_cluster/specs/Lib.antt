pub mod Completing
pub mod InStep
pub mod Rewinding
pub mod Servers
