pub mod Frames
pub mod Parts
pub mod Work
pub mod Bounds
pub mod Fits
