-- The machine of document 01. Machine.antt is its front page.
pub mod Types
pub mod Record
pub mod Settling
pub mod Machine
pub mod Rows
pub mod Examples
pub mod Secondaries
pub mod Delivery
pub mod Drivers
