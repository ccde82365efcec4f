pub mod Equation
pub mod Pieces
pub mod Right
pub mod Store
