pub mod Root
pub mod Steps
