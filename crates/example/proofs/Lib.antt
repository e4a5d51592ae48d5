-- The theorem.
pub mod Printed
