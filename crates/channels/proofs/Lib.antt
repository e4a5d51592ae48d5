-- Laws that belong to no one function.
pub mod Front
pub mod Reading
pub mod Moving
