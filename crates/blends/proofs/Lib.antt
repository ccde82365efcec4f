pub mod Pixel
pub mod Beside
pub mod Stretch
pub mod Runs
