-- The law of the loops, and what is read back.
pub mod Loops
pub mod Kept
