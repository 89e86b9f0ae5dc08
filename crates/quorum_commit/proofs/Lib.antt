pub mod Counting
pub mod Overlapping
pub mod Sets
pub mod WinningByQuorum
pub mod Lawful
