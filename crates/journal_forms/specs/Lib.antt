-- Definitions that the contracts of this crate, and of those above it, cite; and claims.
pub mod Forms
pub mod Body
pub mod Conversion
pub mod Turns
pub mod Claims
