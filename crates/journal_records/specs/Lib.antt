-- Definitions that the contracts of this crate, and of those above it, cite.
pub mod Kinds
pub mod Body
pub mod Little
pub mod Long
