-- Definitions that the contracts of this crate, and of those above it, cite.
pub mod Events
pub mod Journal
pub mod Ends
pub mod Widths
