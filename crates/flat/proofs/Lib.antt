pub mod Sums
pub mod Refused
