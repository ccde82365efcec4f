pub mod Recurrence
pub mod Series
