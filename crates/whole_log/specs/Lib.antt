pub mod Log
pub mod Pieces
pub mod Whole
