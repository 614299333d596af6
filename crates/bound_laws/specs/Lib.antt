-- The bound within which a run ends a byte (document 02, Q-1).
pub mod Bound
pub mod Examples
