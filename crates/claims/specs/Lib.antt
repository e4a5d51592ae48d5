-- The claims, and the words that they are written with.
pub mod Runs
pub mod Calls
pub mod Nonces
pub mod Demand3
pub mod Flag
pub mod ClockEnd
pub mod Tallies
pub mod Maxima
pub mod StopActions
pub mod Limit
pub mod Witness
pub mod Counters
pub mod Cut
