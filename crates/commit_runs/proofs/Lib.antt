pub mod Holding
pub mod BookOrder
pub mod EveryRun
pub mod Losses
pub mod LossGroups
pub mod LossParts
pub mod LossRuns
