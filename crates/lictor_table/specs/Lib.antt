-- The transition table, what it is written with, and what is read off it.
pub mod Fields
pub mod Setters
pub mod Helpers
pub mod Table
pub mod Rows
pub mod Consumed
pub mod ClampCause
