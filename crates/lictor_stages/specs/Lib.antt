-- Definitions that the contracts cite.
pub mod Findings
pub mod Ingest
pub mod Act
pub mod Verdict
