-- The laws of states are read off the invariant of crates/bus; those of answers go through every call.
-- Assumes nothing.
pub mod States
pub mod Answers
