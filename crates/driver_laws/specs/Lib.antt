-- What holds of the answers to who drives each line (document 02, Q-4).
pub mod Laws
pub mod Examples
