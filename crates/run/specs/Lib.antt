pub mod Run
pub mod Examples
