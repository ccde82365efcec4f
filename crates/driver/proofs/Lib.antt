pub mod Whole
pub mod Scaled
pub mod Entries
pub mod Sides
