pub mod Taylor
pub mod Accuracy
