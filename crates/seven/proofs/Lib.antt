pub mod Passes
pub mod Calls
pub mod Codes
pub mod Log
pub mod Needed
