pub mod Bits
pub mod Words
pub mod Equal
pub mod Packing
pub mod Scan
pub mod Stretches
pub mod Walks
