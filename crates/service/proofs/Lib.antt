-- Laws of one request, which the proofs of the crates above cite.
pub mod Answering
