-- The names of parties.
pub mod Names
