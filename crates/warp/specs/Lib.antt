pub mod Rows
pub mod Warp
