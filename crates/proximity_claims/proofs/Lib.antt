-- The proof, layer by layer.
pub mod Taken
pub mod Lines
pub mod EveryLine
