pub mod Candidates
pub mod Laws
pub mod Plans
pub mod Published
pub mod Sets
pub mod Standbys
