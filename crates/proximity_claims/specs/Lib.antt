-- The claim, and the words that it is written with.
pub mod EveryLine
