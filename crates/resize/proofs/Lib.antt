pub mod Inside
pub mod Bounds
pub mod Sizes
