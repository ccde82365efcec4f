pub mod Ports
pub mod Seal
