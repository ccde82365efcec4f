pub mod Ratio
pub mod Ends
pub mod Agree
pub mod Steep
