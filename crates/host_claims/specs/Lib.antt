-- Definitions that the theorem of this crate cites.
pub mod HostAcks
pub mod HostCut
pub mod HostRun
