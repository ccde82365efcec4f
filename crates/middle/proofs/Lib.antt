pub mod Digits
pub mod Nearest
pub mod Terms
