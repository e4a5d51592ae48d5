-- Laws that belong to no one function, and theorems.
pub mod Rows
