-- Laws of roles, which the proofs of the crates above cite, and small steps of argument.
pub mod Logic
pub mod Cases
pub mod Roles
