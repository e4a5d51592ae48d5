pub mod Float
pub mod Root
pub mod Rank
pub mod Larger
pub mod Most
