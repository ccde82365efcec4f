pub mod Follow
pub mod Ends
pub mod Agree
