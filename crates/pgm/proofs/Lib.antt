pub mod Tests
pub mod Gap
pub mod Founds
pub mod Raster
pub mod Right
pub mod Record
