pub mod Turns
pub mod Rest
pub mod Averages
pub mod Filling
pub mod Centring
pub mod Sizes
pub mod Bounds
