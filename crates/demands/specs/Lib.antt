pub mod Finite
pub mod Agree
pub mod Calls
pub mod Demands
