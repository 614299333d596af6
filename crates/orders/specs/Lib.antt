-- What the numbers of a record ask for.
pub mod Orders
