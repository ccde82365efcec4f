pub mod Lambda
pub mod Solve
