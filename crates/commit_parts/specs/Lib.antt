pub mod Reading
pub mod Modes
pub mod Agents
pub mod Ordered
pub mod Bridged
pub mod Moving
