pub mod Point
pub mod Sample
pub mod Moves
pub mod Images
pub mod Frames
pub mod Needed
