-- An answer is taken apart again, and a bus kept as rows is the machine's bus: the number of places, what is refused,
-- and the theorem.
pub mod TakenApart
pub mod Sizes
pub mod Refused
pub mod Hosted
