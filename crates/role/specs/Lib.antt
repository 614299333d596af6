-- A role, and hearing.
pub mod Types
pub mod Roles
