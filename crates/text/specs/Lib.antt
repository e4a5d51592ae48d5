-- Definitions that the contracts of this crate, and of those above it, cite.
pub mod Ascii
pub mod Line
pub mod Number
pub mod Commas
pub mod Memory
pub mod Column
pub mod Words
