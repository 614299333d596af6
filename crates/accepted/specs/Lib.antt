-- What an accepted call does.
pub mod Types
pub mod Accepted
