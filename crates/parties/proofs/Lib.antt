-- Laws of places, which the proofs of the calls and of demand 3 cite, and of the loops over them.
pub mod Places
pub mod Loops
pub mod Bits
pub mod Sweeps
