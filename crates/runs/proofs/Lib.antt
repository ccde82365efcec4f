pub mod Ends
pub mod Moves
pub mod Stays
