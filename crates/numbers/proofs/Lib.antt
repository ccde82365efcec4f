pub mod Sizes
pub mod Small
pub mod Whole
pub mod Rounded
pub mod Cast
pub mod Short
pub mod Signs
