pub mod Pgm
pub mod Frame
