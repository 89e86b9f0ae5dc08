pub mod LineLaws
pub mod OptionLaws
pub mod RequestTexts
