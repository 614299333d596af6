-- What holds of the parallel poll (document 02, Q-8).
pub mod Polls
pub mod Kept
pub mod Examples
