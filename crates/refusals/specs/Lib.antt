-- Which refusal a call meets.
pub mod Types
pub mod Refusals
