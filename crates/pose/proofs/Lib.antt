pub mod Scaled
pub mod Tests
