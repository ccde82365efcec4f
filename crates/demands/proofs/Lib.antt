pub mod Finite
pub mod Agree
pub mod Bits
pub mod Bytes
pub mod Demands
