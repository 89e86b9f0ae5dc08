pub mod Placing
pub mod Standing
pub mod Timelines
pub mod Walks
