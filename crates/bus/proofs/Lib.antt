-- The proofs about the machine: P1 to P12, and demand 3. A page on the argument, in the order of the files.
--
-- What has to be shown. However the host mixes steps and calls, each byte that is put up reaches each party that was
-- ready for it, once, as it was sent (specs/Delivery.antt). A party is ready in ACRS, and takes by going to ACDS. So
-- three things must not happen while a byte stands: that somebody comes to ACRS
-- (a second taking, or one by a late joiner), that somebody leaves ACRS without having taken it or being seen to leave,
-- and that it ends while somebody is still in ACRS.
--
-- Invariant. `Inv` is what every bus has between two calls, seen place by place. Its heart is `no_anrs`: while a byte
-- stands nobody is in ANRS, the only state that leads to ACRS. It needs `sent` and `sends` (a byte stands just while
-- its sender is in STRS, so that who joins sees DAV), and those need that at most one party is a source.
-- With ATN true the source is the one party in charge (`charge`); with ATN false it is the talker. That at most one
-- party talks is the hard part: while a talk address stands half heard, the old talker and the new one both talk.
-- `look` is the role that a party will have once it has heard what stands, and `heard` says that among the looks
-- at most one talks. A put is the only call that does work for it: then every party waits to hear (`others`), and
-- hearing one command keeps one talker, since no two names clash (`hear_all` in crates/role/proofs/Roles.antt). Where
-- parties have secondaries, one talker is not enough to go on with: `Addressed` says besides that where somebody waits
-- for its talk secondary who talks waits for one too, that all who wait have one primary, and that nobody waits with
-- ATN false. A secondary then names one of those who wait, and silences the others. Hearing itself, the own hearing at
-- the end, and every acceptor move leave the looks as they were. Attention may drop only
-- when no command stands: that is what refusal 7 is for. `still` says that every party has settled, so that a call that
-- changes one party changes no other.
--
-- Change, Putting, Attention. What becomes of the invariant where one party changes and what stands stays (`keep_pre`),
-- where a byte is put or ends (`put_pre`, `end_pre`), and where attention follows (`attend_inv`: whatever the acceptors
-- were, they start anew, so only flags and control must be in order: `Raw`).
--
-- Summary. `Good b c a` is all that the ledger reads of a call: the invariant after it, what it did to the standing
-- byte (keeps, puts, ends or breaks it), the account of host bytes, and what acceptors in ACRS may have done. There is
-- one lemma for each way in which a call ends: refused, one party changed, put, ended, attention, passed.
--
-- OneParty to SourceStep. Each call cites one of them. A new call that changes one party costs a summary by
-- `plain_good`, `seated_good` or `kept_good`: a few lines. EachCall gathers them (`call_good`) and carries them along a
-- list.
--
-- Ledger. An induction over the number of calls done. It never opens the machine: `up` (what was put and has not ended
-- stands), `waits` (who is in ACRS now was ready at the put and has taken nothing since), `since` (who was ready waits,
-- took, or left). The fields of `Delivered` follow in a few lines each.
--
-- Built, Theorem, Reached. An accepted build gives the invariant, so `delivery` holds from every build. Reached has the
-- facts of every reachable bus that later work cites.
--
-- Looking. How examples and counterexamples look at each call of a list. The theorem does without it.
--
-- Driving. The ones of a mask are as many as the parties that drive its line. crates/driver_laws has the laws about it.
--
-- The folders hold the proofs of the functions in src/, each under its own name.
-- Assumes nothing.
pub mod Examples
pub mod Invariant
pub mod Change
pub mod Putting
pub mod Attention
pub mod Summary
pub mod OneParty
pub mod Accepting
pub mod HostCalls
pub mod Switches
pub mod ControlCalls
pub mod AcceptorStep
pub mod Passing
pub mod SourceStep
pub mod EachCall
pub mod Ledger
pub mod Built
pub mod Looking
pub mod Theorem
pub mod Reached
pub mod Seats
pub mod Driving
