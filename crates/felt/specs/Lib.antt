pub mod Still
pub mod Felt
