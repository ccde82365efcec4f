pub mod Still
pub mod Posed
pub mod Turning
pub mod Shifting
