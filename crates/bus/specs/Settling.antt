-- Attention and settling of the whole bus, and what follows on a call's own changes.
-- Assumes nothing.
use Rattle.std.specs.Prelude.{ℕ, ◌+◌, Bool, false, not, cond, List, set, Option, Some, None, Ok}
use Rattle.party.specs.Parts.{one, held_bytes}
use Rattle.party.specs.Driving.{is_active}
use Rattle.party.specs.Sending.{is_source}
use Rattle.party.specs.Settling.{attended, settled, cleared, clear_drops, change_control}
use Rattle.parties.specs.Places.{at, some, each, total}
use Rattle.parties.specs.Lines.{poll_byte}
use Rattle.effect.specs.Stands.{stands}
use Rattle.effect.specs.Effects.{say, does}
use Rattle.bus.specs.Types.{Party, Standing, Bus, Answer, Said, Idle, Active, After, Effect}
use Rattle.bus.specs.Types.ev
use Rattle.bus.specs.Types.after
use Rattle.bus.specs.Record.{here}

-- The answer of an accepted call that leaves the bus b. `off` says that what stood was broken off.
abbrev pub answered : Bool → Said → Bus → Answer
answered off s b = record {
  verdict = Ok tt;
  event = s.event;
  byte = s.byte;
  end = s.end;
  dropped = s.dropped;
  broken = one off;
  bus = b;
}

-- "After each accepted call every party settles."
abbrev pub settle_bus_as : Bool → Bool → Bus → Said → List Party → Option Standing → Answer
settle_bus_as atn off b s ps st = answered off s
    (record b { parties = each b.count (settled atn) ps; standing = cond off None st })

-- "A non-source goes to SIDS, its own standing byte broken off": its sender is no source any more.
abbrev pub deserted : Bool → List Party → Option Standing → Bool
deserted atn ps None = false
deserted atn ps (Some b) = not (is_source atn (at ps b.sender.0))

-- Settling alone, with ATN as it is: no call changes who is active unless attention follows.
abbrev pub settle_bus : Bool → Bus → Said → List Party → Option Standing → Answer
settle_bus atn b s ps st = settle_bus_as atn (deserted atn ps st) b s ps st

-- Attention, then settling: "a standing byte is broken off and never put again; all sources to SIDS; ..".
abbrev pub attend_as : Bool → Bus → Said → List Party → Option Standing → Answer
attend_as atn b s ps st = settle_bus_as atn (stands st) b s (each b.count (attended atn) ps) st

abbrev pub attend : Bus → Said → List Party → Option Standing → Answer
attend b s ps st = attend_as (some b.count is_active ps) b s ps st

-- A call that changes party i: without attention, and with it ("a call that changes which party is active (or none)").
abbrev pub settle : Bool → Bus → ℕ → Effect → Answer
settle atn b i e = settle_bus atn b e.said (set b.parties i e.party) e.standing

abbrev pub attention : Bus → ℕ → Effect → Answer
attention b i e = attend b e.said (set b.parties i e.party) e.standing

-- Control goes from party i to party j: "that party is active, the sender idle, event passed"
abbrev pub pass : Bus → ℕ → Effect → ℕ → Answer
pass b i e j = attend b
    (say ev.Passed e.said.byte e.said.end (held_bytes e.party + held_bytes (here b j)))
    (set (set b.parties i (change_control Idle e.party)) j (change_control Active (here b j)))
    e.standing

-- "Interface clear: talk, listen and poll mode off everywhere, all control idle", then the system party as its effect
-- says.
abbrev pub clear_all : Bus → ℕ → Effect → Answer
clear_all b i e = attend b
    (say ev.None 0 false (total b.count clear_drops b.parties + held_bytes (cleared (here b i))))
    (set (each b.count cleared b.parties) i e.party)
    e.standing

-- A parallel poll "answers the eight lines as a byte, .. event lines, END 0" (document 02, Q-8): those of the bus as
-- the call finds it.
abbrev pub poll : Bool → Bus → ℕ → Effect → Answer
poll atn b i e = settle atn b i
    (does (say ev.Lines (poll_byte b.count b.parties) false 0) e.party e.standing)

abbrev pub followed : After → Bool → Bus → ℕ → Effect → Answer
followed after.Settle atn b i e = settle atn b i e
followed (after.Pass j) atn b i e = pass b i e j.0
followed after.Attend atn b i e = attention b i e
followed after.Clear atn b i e = clear_all b i e
followed after.Poll atn b i e = poll atn b i e

abbrev pub follow : Bool → Bus → ℕ → Effect → Answer
follow atn b i e = followed e.after atn b i e
