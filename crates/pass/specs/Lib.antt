pub mod Pass
pub mod Kept
