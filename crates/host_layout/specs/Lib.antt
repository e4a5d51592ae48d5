pub mod Flags
pub mod Input
pub mod Verdict
pub mod State
