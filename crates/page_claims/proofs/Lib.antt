-- The proof, layer by layer.
pub mod Numbers
pub mod Lines
pub mod EveryPage
