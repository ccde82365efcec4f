pub mod Words
pub mod Reading
