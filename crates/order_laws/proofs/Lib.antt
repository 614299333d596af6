-- The laws about the order of turns.
--
-- Alike. An acceptor step reads its own party, what stands and ATN, and nothing else of the bus: DAV goes with what
-- stands. Two buses that agree on these are alike to the party, and stay so if it has its turn on both. A turn of
-- another party that is no source leaves a bus that is alike to it.
--
-- Orders. So a party comes to what its own turns alone bring it to, and has their answers. Two lists that have the same
-- turns of each party leave the same party at each place, and every later call finds the same bus.
--
-- Examples. The machine computes them.
-- Assumes nothing.
pub mod Alike
pub mod Orders
pub mod Examples
