pub mod Leading
pub mod OwnInputs
