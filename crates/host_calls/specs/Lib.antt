-- The host's calls.
pub mod Types
pub mod HostCalls
