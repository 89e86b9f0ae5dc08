pub mod Answering
pub mod Bringing
pub mod Kept
pub mod Replied
pub mod Requested
pub mod Waiting
