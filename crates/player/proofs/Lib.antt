-- Laws that belong to no one function.
pub mod Playing
pub mod Feeding
pub mod Following
