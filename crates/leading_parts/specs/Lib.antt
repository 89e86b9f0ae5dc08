pub mod Alone
pub mod Aside
pub mod Elsewhere
pub mod Holding
pub mod Others
pub mod Ticked
