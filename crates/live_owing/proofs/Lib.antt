pub mod Apart
pub mod Counting
pub mod Courses
