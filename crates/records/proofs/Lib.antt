pub mod Known
pub mod Longer
