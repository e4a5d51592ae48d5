-- Definitions that the contracts of this crate, and of those above it, cite.
pub mod Codes
pub mod Sizes
pub mod Masks
pub mod Num
pub mod Cases
pub mod Initial
pub mod Rows
pub mod FirstThat
