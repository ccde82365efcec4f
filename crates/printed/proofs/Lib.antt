pub mod Pending
pub mod Printed
pub mod Stays
