pub mod Shapes
pub mod Kinds
pub mod Helpers
pub mod Images
pub mod Passes
pub mod Vectors
