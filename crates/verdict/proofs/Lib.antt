pub mod Ends
pub mod Nan
pub mod Finite
