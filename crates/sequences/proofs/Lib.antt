pub mod Estimates
pub mod Sequences
