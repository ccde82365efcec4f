pub mod Point
pub mod Places
pub mod Sizes
pub mod Finite
