pub mod EveryRun
mod Inputs
mod Leading
mod ReadKeys
mod Readings
mod Runs
pub mod TakeOvers
mod Telling
mod Untold
