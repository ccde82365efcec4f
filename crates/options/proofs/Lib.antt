pub mod Prefix
pub mod Within
pub mod Tens
pub mod Values
pub mod Fields
