-- The example, and what is to be printed for it.
pub mod Example
