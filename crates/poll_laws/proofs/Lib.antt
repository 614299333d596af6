-- The laws of the parallel poll.
--
-- Polls. An accepted poll settles a bus on which every party has settled, so that its answer is told and the bus is as
-- it was. The bits of its byte are those of the lines. A list is walked with its polls and without them.
--
-- Kept. What each call leaves of the own status, over a list.
--
-- Configured. What each call leaves of responses and of who is configuring: what follows on a call leaves both, the
-- host's acts do but for a reset, and a turn changes those of its own party as hearing does.
--
-- Examples. The machine computes them.
-- Assumes nothing.
pub mod Polls
pub mod Kept
pub mod Configured
pub mod Examples
