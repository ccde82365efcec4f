pub mod Settings
pub mod Sides
