pub mod Taps
pub mod Passes
pub mod Bounds
