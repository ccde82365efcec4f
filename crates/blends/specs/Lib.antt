pub mod Blend
pub mod Reads
