pub mod InputHears
pub mod SeenModes
pub mod ModeRequests
