-- The laws of the loops over addresses, and of the names that a build accepts.
pub mod Scans
pub mod Unrefused
