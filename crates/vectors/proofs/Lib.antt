mod Asked
pub mod Tests
pub mod Runs
pub mod Sides
pub mod Stages
pub mod Marked
pub mod Packing
pub mod Parts
