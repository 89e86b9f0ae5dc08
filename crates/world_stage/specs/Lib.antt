pub mod AgentViews
pub mod Arrivals
