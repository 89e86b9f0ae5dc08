pub mod Books
pub mod Showing
pub mod ShownActions
pub mod FromLease
pub mod Renewals
pub mod Changes
pub mod Order
pub mod Requests
