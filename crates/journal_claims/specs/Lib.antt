-- The claims, and the words that they are written with.
pub mod Instructions
pub mod JournalStops
pub mod JournalStopActions
