pub mod Replying
pub mod OperatorAnswers
