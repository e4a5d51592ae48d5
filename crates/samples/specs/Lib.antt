-- The samples that theorems and cases are about.
pub mod Samples
