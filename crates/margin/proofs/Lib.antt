-- Laws that belong to no one function, and the theorem that the margin is the nearest whole number.
pub mod Nearest
pub mod Double
