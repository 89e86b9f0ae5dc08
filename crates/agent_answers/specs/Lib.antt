pub mod OperatorAnswers
pub mod Replies
