-- Why a request is answered once (specs/Requests.antt). The laws of one request are in
-- crates/service/proofs/Answering.antt.
--
-- Asked. What each call leaves of its own party's request: a status byte put up reports it, three host calls write it,
-- and all else leaves it.
--
-- Serving. So what any call does to every party's request: its service settles by bit 64 of live or the bit, and the
-- bit changes by its own calls and status bytes alone.
--
-- Phases. A request over a list: it asks (SRQS), a poll has begun (APRS), the first poll that puts a status byte goes
-- on (APRS, the bit off), it is over (NPRS). Each call leaves a phase as it is or takes it to the next.
--
-- Answered. A status byte has the bit just in APRS, so the condition is read off the phases.
--
-- Examples, Instance. The examples are computed, and the condition's premises hold of one of them.
-- Assumes nothing.
pub mod Asked
pub mod Serving
pub mod Phases
pub mod Answered
pub mod Examples
pub mod Instance
