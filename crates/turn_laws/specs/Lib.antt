-- The calls that give a turn, and what is proved of a step: what it changes, and what it leaves.
pub mod Turns
pub mod Told
pub mod Numbering
pub mod Examples
