-- The addresses of a build.
pub mod Addresses
