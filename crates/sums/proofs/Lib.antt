pub mod Rows
pub mod Folds
pub mod Fours
pub mod Agree
