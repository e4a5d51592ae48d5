-- Laws that belong to no one function, and theorems.
pub mod Cases
pub mod Fits
pub mod Laws
