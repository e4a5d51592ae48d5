-- What a tick is computed with.
pub mod Opened
