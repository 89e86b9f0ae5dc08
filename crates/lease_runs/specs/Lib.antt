pub mod Fencing
