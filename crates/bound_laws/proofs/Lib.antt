-- Why a run ends a byte within seven rounds.
--
-- Ranks, Talker, Rounds, Bound. While a byte waits, an acceptor wants at most three turns to be ready (ACDS, AWNS,
-- ANRS, ACRS) and the talker one to be in SDYS; each turn lowers its party's rank, and nobody else raises it. So within
-- three rounds and a turn of the talker the byte is put. While it stands, each acceptor wants at
-- most two turns to let go of NDAC, and no turn but the talker's can end it: three rounds more. `Low` says how far a
-- round has come; `waits_round` and `stands_round` go through one, for any list of turns that has every place. Seven
-- rounds are the bound.
-- Assumes nothing.
pub mod Examples
pub mod Ranks
pub mod Talker
pub mod Rounds
pub mod Bound
