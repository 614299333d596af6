-- The proofs of the table.
pub mod Entries
