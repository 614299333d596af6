-- One party: document 01's rules that speak of a party alone.
pub mod Types
pub mod Parts
pub mod Driving
pub mod Sending
pub mod Settling
