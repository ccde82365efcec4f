pub mod Parts
pub mod Stays
pub mod Work
pub mod Front
pub mod Ends
