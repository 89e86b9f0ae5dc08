pub mod InputEvents
