pub mod State
pub mod Told
