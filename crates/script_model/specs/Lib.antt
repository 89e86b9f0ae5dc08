pub mod Bounds
pub mod Keywords
pub mod Ranges
pub mod Script
pub mod Spelling
pub mod Ticks
pub use Rattle.pat_base.specs.Name
