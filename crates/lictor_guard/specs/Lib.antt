-- Definitions that the contracts cite.
pub mod Guard
pub mod Delivery
