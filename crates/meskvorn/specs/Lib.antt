pub mod Packing
pub mod Host
pub mod Hosted
