-- Proved examples of the second request bit (document 02, Q-5). Rows.antt of crates/bus/specs has their words.
-- Assumes nothing.
use Rattle.std.specs.Prelude.{ℕ, ◌≡◌, false, List, [], ◌∷◌, map}
use Rattle.parties.specs.Places.{place}
use Rattle.bus.specs.declared.Bus.{Bus}
use Rattle.bus.specs.Record.{build}
use Rattle.bus.specs.Types.{Call}
use Rattle.bus.specs.Types.ruling
use Rattle.bus.specs.Types.ev
use Rattle.bus.specs.Types.call_of
use Rattle.bus.specs.Types.act_of
use Rattle.bus.specs.Rows.{Report, Run, outcome, expected, ok, moved, says, refused, step, read, listen_only, clear}
use Rattle.bus.specs.Rows.{standby, run, sends}
use Rattle.request_laws.specs.Requests.{StatAt, Left, First}

abbrev request : ℕ → Call
request on = call_of.Of (place 1) (act_of.SecondRequest on)

-- The lines answer: SRQ is 4, and B0 is ATN, NDAC and NRFD.
abbrev lines : ℕ → Call × Report
lines v = (call_of.Lines, says ev.Lines v false)

-- Party 0, the controller, and party 1, whose poll register is 01.
abbrev rack : List (Call × Report) → Run
rack calls = run (4 ∷ 5 ∷ []) ((call_of.Of (place 1) (act_of.PollRegister 0x01), ok) ∷ calls)

-- Party 0 takes charge and polls party 1: SPE, its talk address. Then it listens.
abbrev polls : List (Call × Report) → List (Call × Report)
polls rest = (clear 0, ok) ∷ sends 0x18 ((step 1, moved) ∷ sends 0x45 ((standby 0, ok) ∷ (listen_only 0 1, ok) ∷ rest))

-- It breaks the poll off, sees these lines, and polls again.
abbrev again : ℕ → List (Call × Report) → List (Call × Report)
again v rest = (call_of.Of (place 0) act_of.TakeControl, ok) ∷ lines v ∷ (standby 0, ok) ∷ rest

-- Party 1 sends its status byte, which party 0 takes and its host reads.
abbrev reports : ℕ → List (Call × Report) → List (Call × Report)
reports v rest =
    (step 0, moved)
    ∷ (step 1, moved)
    ∷ (step 1, says ev.Stat v false)
    ∷ (step 0, says ev.Took v false)
    ∷ (step 0, moved)
    ∷ (step 1, says ev.Ended v false)
    ∷ (read 0, says ev.Read v false)
    ∷ (step 0, moved)
    ∷ rest

-- The user's condition: rsv2 on, SRQ on the line, polled: 41 with register 01, then a second poll sends 01. Every
-- status byte of the first poll has the bit.
abbrev pub R1 : List Run
R1 =
    rack ((request 1, ok) ∷ lines 4 ∷ polls (reports 0x41 (again 0xb0 (reports 0x01 []))))
    ∷ rack ((request 1, ok) ∷ polls (reports 0x41 (reports 0x41 (again 0xb0 (reports 0x01 (reports 0x01 []))))))
    ∷ []

-- A poll that puts nothing takes the party off SRQ, and nothing from its request.
abbrev pub R2 : List Run
R2 = rack ((request 1, ok) ∷ polls (again 0xb0 (reports 0x41 (again 0xb0 (reports 0x01 []))))) ∷ []

-- Switched on in a poll that began in NPRS: no byte of that poll has the bit, and putting them clears nothing. SRQ
-- comes after it, and the next poll has the bit.
abbrev pub R3 : List Run
R3 = rack (polls ((request 1, ok) ∷ reports 0x01 (again 0xb4 (reports 0x41 (again 0xb0 (reports 0x01 [])))))) ∷ []

-- "Reset clears rsv2", and so does switching it off. An interface clear leaves it: in `polls` there is one, and SRQ is
-- on after it.
abbrev pub R4 : List Run
R4 =
    rack ((request 1, ok) ∷ lines 4 ∷ (call_of.Of (place 1) act_of.Reset, ok) ∷ lines 0 ∷ polls (reports 0x01 []))
    ∷ rack ((request 1, ok) ∷ lines 4 ∷ (request 0, ok) ∷ lines 0 ∷ polls (reports 0x01 []))
    ∷ rack ((request 1, ok) ∷ (clear 0, ok) ∷ lines 0xb4 ∷ [])
    ∷ []

-- "bit 64 of live, or rsv2": either asks, and a register that has the bit asks on.
abbrev pub R5 : List Run
R5 = rack ((call_of.Of (place 1) (act_of.PollRegister 0x41), ok) ∷ (request 1, ok) ∷ lines 4 ∷ polls
    (reports 0x41 (again 0xb0 (reports 0x41 [])))) ∷ []

-- "switches it with 0 or 1": another value is refused, after a party that is not there.
abbrev pub R6 : List Run
R6 = rack ((request 2, refused ruling.BadValue) ∷ lines 0 ∷
    (call_of.Of (place 2) (act_of.SecondRequest 2), refused ruling.NoParty) ∷
    (call_of.Of (place 2) (act_of.SecondRequest 1), refused ruling.NoParty) ∷ lines 0 ∷ []) ∷ []

abbrev pub rows : List (List Run)
rows = R1 ∷ R2 ∷ R3 ∷ R4 ∷ R5 ∷ R6 ∷ []

-- Each row's runs answer as the row says.
abbrev pub Examples : Type 0
Examples = map (map outcome) rows ≡ map (map expected) rows

-- The condition speaks of such lists: its premises hold of the second run of R1. Call 1 is the request, the first poll
-- is calls 19 to 36, its status bytes are calls 22 and 30, and those of a later poll calls 41 and 49.
abbrev pub bus : Bus
bus = (build (4 ∷ 5 ∷ []) (place 0)).bus

abbrev pub calls : List Call
calls = map (λ c. c.0) (rack
    ((request 1, ok) ∷ polls (reports 0x41 (reports 0x41 (again 0xb0 (reports 0x01 (reports 0x01 []))))))).calls

pub record Speaks : Type 0 where
  pub first : First bus calls 1 1 19 36 22
  pub second : First bus calls 1 1 19 36 30
  pub later : StatAt bus calls 1 41
  pub last : StatAt bus calls 1 49
  pub left : Left bus calls 1 1 49
