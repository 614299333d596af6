-- The laws about steps.
--
-- Local. A step of a party that is no source changes that party alone: every other has settled already.
--
-- Noacc. An acceptor that drives neither NRFD nor NDAC is in AIDS and stays there; the source that nobody answers stays
-- as it is. So no turn changes the bus.
--
-- OnOffer. Whatever call comes, a party in SDYS whose byte is on offer afterwards is in SDYS: settling leaves it, and
-- attention takes the byte off offer, or is not for that party to see.
--
-- Kept. What a call leaves of names and latches, on any bus: whatever a call does, and whatever follows on it.
--
-- Latched. So the latches of a party are what lists of calls tell of them.
--
-- Named. So no call changes a party's name.
--
-- AsBefore, Renumbered. The order by address is a matter of the names. Where the numbers go with the addresses it is
-- the order by place; and where two buses have the same names, the order of one, renumbered, is that of the other.
-- Assumes nothing.
pub mod Examples
pub mod Local
pub mod Noacc
pub mod OnOffer
pub mod Kept
pub mod Latched
pub mod Named
pub mod AsBefore
pub mod Renumbered
