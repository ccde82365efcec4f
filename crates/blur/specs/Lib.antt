pub mod Blur
pub mod Pass
