pub mod Answers
pub mod Denials
pub mod Judging
pub mod Origins
pub mod State
pub mod Wishes
