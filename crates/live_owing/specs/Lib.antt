pub mod Courses
pub mod Ledger
pub mod Owed
