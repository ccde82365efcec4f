pub mod Turns
pub mod Between
pub mod Folds
pub mod InPlace
