-- Definitions that the contracts of this crate, and of those above it, cite.
pub mod Tally
pub mod History
pub mod Counts
pub mod Join
pub mod Stretches
