pub mod Bound
pub mod Units
pub mod F32
pub mod Sums
