pub mod Replies
pub mod Requests
pub mod Targets
pub mod Verbs
