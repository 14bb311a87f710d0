pub mod Lines
pub mod Courses
pub mod Load
