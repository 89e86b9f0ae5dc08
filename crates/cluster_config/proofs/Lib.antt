mod ConfigFacts
mod DepthLaws
mod EmptyPatch
pub mod LineLaws
mod MergeSteps
mod PatchLaws
mod ReadingLaws
mod SettingLaws
pub mod TextLaws
