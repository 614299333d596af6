-- What an access to a register of the chip stands for.
pub mod Types
pub mod Registers
