-- Definitions that the contracts of this crate, and of those above it, cite, and the statements of
-- its theorems.
pub mod Near
pub mod Lines
pub mod History
pub mod ZeroWidth
