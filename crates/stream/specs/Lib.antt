-- Definitions that the crates above cite.
pub mod Stream
