-- The claims, and the words that they are written with.
pub mod Kept
pub mod Numbers
