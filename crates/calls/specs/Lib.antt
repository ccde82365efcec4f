pub mod Calls
pub mod Pins
