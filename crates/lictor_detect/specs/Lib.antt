-- Definitions that the contracts cite.
pub mod Window
pub mod Brake
pub mod Factor
