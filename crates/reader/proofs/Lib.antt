pub mod Records
pub mod Handing
