pub mod Rows
pub mod Between
