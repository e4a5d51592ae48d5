pub mod Patterns
pub mod Squares
pub mod Rounded
pub mod Whole
pub mod Steps
pub mod Units
pub mod Nearest
pub mod Vectors
