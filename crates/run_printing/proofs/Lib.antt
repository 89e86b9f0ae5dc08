pub mod LineEnds
pub mod Shown
pub mod Watching
