pub mod Course
pub mod Whole
