pub mod Endings
pub mod Keys
pub mod Laws
pub mod Rows
pub mod Standbys
