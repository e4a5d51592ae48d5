-- The theorem of the table, and what its cases say of every run state.
pub mod ForAll
pub mod Given
pub mod Opened
pub mod SoftTrips
