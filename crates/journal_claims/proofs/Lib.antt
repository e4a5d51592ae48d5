-- The proofs, layer by layer.
pub mod Order
pub mod Episodes
pub mod JournalStops
pub mod JournalStopActions
