-- Laws that belong to no one function.
pub mod Branch
pub mod Codes
pub mod Counts
pub mod RowLaws
pub mod FirstThat
pub mod Literals
