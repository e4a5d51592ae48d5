-- Definitions that the contracts of this crate, and of those above it, cite.
pub mod Printer
pub mod Fifties
pub mod Widths
pub mod Numbers
