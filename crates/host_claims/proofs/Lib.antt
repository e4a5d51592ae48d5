pub mod HostCut
pub mod HostRun
pub mod HostAcks
