-- The runner of document 02, Q-1 and Q-7: who has the next turn, what a run of turns answers, and what is proved of it.
pub mod Waiting
pub mod Runner
pub mod Lists
pub mod Ties
pub mod Order
pub mod Examples
