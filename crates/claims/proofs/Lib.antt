-- The proofs of the claims, layer by layer.
pub mod Runs
pub mod Law
pub mod Rows
pub mod Tick
pub mod Nonces
pub mod Demand3
pub mod Flag
pub mod ClockEnd
pub mod Tallies
pub mod Maxima
pub mod StopActions
pub mod Limit
pub mod Witness
pub mod Counters
pub mod Cut
