-- Laws that proofs of functions cite.
mod One
pub mod Accepted
