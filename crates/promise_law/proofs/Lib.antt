pub mod Books
pub mod Premises
