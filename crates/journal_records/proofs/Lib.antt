-- Laws that belong to no one function.
pub mod Laws
pub mod Filled
pub mod Numbered
pub mod Decoded
