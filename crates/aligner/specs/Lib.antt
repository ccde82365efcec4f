pub mod Aligner
