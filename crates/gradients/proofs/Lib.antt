pub mod Rows
pub mod Bounds
pub mod Sizes
