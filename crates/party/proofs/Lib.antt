-- Laws of one party, which the proofs of the crates above cite.
pub mod Settled
