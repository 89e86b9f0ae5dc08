pub mod Cutting
pub mod NumberLaws
pub mod Outcomes
pub mod PlainTexts
pub mod WordLaws
