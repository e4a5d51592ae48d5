-- Definitions that the contracts cite.
pub mod Tick
pub mod Decide
pub mod CleanTick
pub mod FaultTick
pub mod Closed
pub mod OneWay
