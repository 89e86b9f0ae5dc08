pub mod Asleep
