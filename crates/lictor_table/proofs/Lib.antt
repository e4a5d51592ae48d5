-- Laws of the table.
pub mod ByTable
pub mod ClampCause
pub mod Lines
pub mod Setters
pub mod Stops
