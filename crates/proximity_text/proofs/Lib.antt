-- Laws that belong to no one function, and theorems.
pub mod Laws
pub mod ZeroWidth
pub mod Flags
pub mod History
