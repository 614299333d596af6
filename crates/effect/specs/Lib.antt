-- A call, its refusal, what stands on the bus, and what a call does.
pub mod Verdicts
pub mod Types
pub mod Calls
pub mod Stands
pub mod Effects
