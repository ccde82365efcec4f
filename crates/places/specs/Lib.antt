pub mod Places
pub mod Point
