pub mod Held
pub mod Wide
pub mod Motion
