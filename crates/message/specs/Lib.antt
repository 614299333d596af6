-- What a command byte means.
pub mod Meaning
