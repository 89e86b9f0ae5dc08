pub mod Lacking
pub mod Losses
