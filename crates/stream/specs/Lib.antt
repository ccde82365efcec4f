pub mod Memory
pub mod Stream
