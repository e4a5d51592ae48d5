-- The proofs, layer by layer.
pub mod Places
pub mod Decoded
pub mod Kept
pub mod Numbers
