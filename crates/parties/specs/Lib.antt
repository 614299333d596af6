-- The parties of a bus together: document 01's rules that say "some party" and "every party".
pub mod Types
pub mod Places
pub mod Lines
pub mod Sweeping
