pub mod Slide
