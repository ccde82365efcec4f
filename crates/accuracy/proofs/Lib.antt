pub mod Close
pub mod Recurrence
pub mod Near
pub mod Taylor
pub mod Cosine
pub mod Below
pub mod Sine
