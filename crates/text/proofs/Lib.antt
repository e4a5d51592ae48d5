-- Laws that belong to no one function.
pub mod Lines
pub mod Digits
pub mod Signs
pub mod Lists
pub mod Puts
pub mod Columns
pub mod Words
