-- Laws that belong to no one function, and theorems.
pub mod Rooms
pub mod Parts
pub mod Fifties
pub mod Widths
pub mod Numbers
