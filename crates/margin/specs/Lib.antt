-- Definitions that the contracts cite.
pub mod Margin
pub mod Nearest
