pub mod AnswerTexts
pub mod Statuses
