pub mod Left
pub mod Playing
