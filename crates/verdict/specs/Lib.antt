pub mod Verdict
pub mod Finite
