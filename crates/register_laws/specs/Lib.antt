-- What holds of accesses to the chip's registers (document 02, Q-6).
pub mod Accesses
pub mod Marks
pub mod Examples
