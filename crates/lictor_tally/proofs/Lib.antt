-- Laws that belong to no one function.
pub mod Laws
pub mod History
pub mod Places
pub mod CountsLaws
pub mod Stretches
