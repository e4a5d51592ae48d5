pub mod Stored
pub mod Refused
