pub mod Holds
mod Passing
mod WhoIsNamed
