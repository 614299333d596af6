-- Laws of names, and small steps of argument.
pub mod Logic
pub mod Clashes
