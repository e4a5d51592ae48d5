-- Laws that belong to no one function, and demand 1.
pub mod Events
pub mod Parts
pub mod Ends
pub mod Widths
pub mod WithoutWidth
