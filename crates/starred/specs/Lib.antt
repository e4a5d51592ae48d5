pub mod ForAll
pub mod SoftTrips
pub mod Starred
