pub mod Commits
pub mod Library
pub mod Program
