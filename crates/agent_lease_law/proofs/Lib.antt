pub mod Behind
pub mod Lawful
pub mod LawfulGrants
pub mod LawfulWaits
pub mod LawfulFailsafe
pub mod LawfulSteps
