pub mod Passes
pub mod Calls
pub mod Log
pub mod Needed
