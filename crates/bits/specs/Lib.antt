pub mod Words
pub mod Stretches
pub mod Packing
pub mod Equal
pub mod Walks
