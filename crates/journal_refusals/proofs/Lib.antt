-- Laws that belong to no one function.
pub mod Again
pub mod Contents
pub mod Exactly
pub mod Framing
pub mod Widths
