-- The laws of who drives each line.
--
-- Laws. Those of every bus are laws of masks. On a bus that calls lead to, a line is on where it is driven, since the
-- sender of what stands is one of the parties; settling once more changes nothing; and ATN and DAV have one driver at
-- the most, by demand 3.
--
-- Examples. The machine computes them.
-- Assumes nothing.
pub mod Examples
pub mod Laws
