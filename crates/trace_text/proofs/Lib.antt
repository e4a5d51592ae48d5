-- Laws that belong to no one function.
pub mod Parts
pub mod RowsLaws
pub mod Codes
