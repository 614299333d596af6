-- The laws of accesses to the chip's registers.
--
-- Decoding. Which codes are carried, by the cases of an auxiliary command; which accesses are writes.
--
-- Accesses. Where the act is one of the host's, the access is that call by definition. A party marked or unmarked
-- drives and settles as before, so that data out is the host's write but for the mark.
--
-- Values. A switch that comes of a byte is 0 or 1, so that BADVALUE never comes.
--
-- Marks. What each call leaves of names and latches, over a list.
--
-- Examples. The machine computes them.
-- Assumes nothing.
pub mod Decoding
pub mod Accesses
pub mod Values
pub mod Marks
pub mod Examples
