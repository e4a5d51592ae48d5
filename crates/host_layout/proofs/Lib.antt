pub mod Codes
pub mod Keys
pub mod Stored
