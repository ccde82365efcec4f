pub mod Recurrence
pub mod Scale
pub mod Square
pub mod Signed
