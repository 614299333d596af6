-- What the order of turns has to do with what comes of them (document 02, Q-10).
pub mod Orders
pub mod Examples
