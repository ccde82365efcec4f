pub mod Bounded
pub mod Meets
pub mod ReadOver
pub mod Waits
