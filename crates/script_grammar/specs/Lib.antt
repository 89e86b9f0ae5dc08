pub mod Arguments
pub mod Draft
pub mod FirstWords
pub mod Limits
pub mod Members
pub mod Reading
pub use Rattle.pat_base.specs.Name
