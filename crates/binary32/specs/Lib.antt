-- Definitions that the contracts cite: Patterns is what others call, Guess the step between.
pub mod Patterns
pub mod Guess
