pub mod Answers
pub mod Decisions
pub mod Pages
pub mod Refusals
pub mod Replies
pub mod Statuses
