pub mod Moves
pub mod Calls
pub mod Frames
pub mod Needed
