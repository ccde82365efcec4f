pub mod Estimates
pub mod Sequences
pub mod Chains
