pub mod Pixel
pub mod Rows
pub mod Pieces
pub mod Frame
pub mod Sizes
pub mod Bounds
pub mod Marks
