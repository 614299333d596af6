-- Laws about turns: a name stays, and a byte with nobody to take it is kept (document 02, Q-2 and Q-3).
-- Assumes nothing.
use Rattle.std.specs.Prelude.{ℕ, ◌≤◌, ◌<◌, List, ◌≡◌, Bool, true, false, length, get_or, Some}
use Rattle.message.specs.Meaning.{address}
use Rattle.names.specs.Names.{plain}
use Rattle.offer.specs.Offer.{kind_of, end_of, byte}
use Rattle.party.specs.Driving.{is_active}
use Rattle.party.specs.Sending.{is_source, is_polled, offer}
use Rattle.effect.specs.Effects.{say}
use Rattle.bus.specs.Types.{Name, Sdys, Kind, Call}
use Rattle.bus.specs.Record.{here, lines}
use Rattle.bus.specs.Machine as m
use Rattle.bus.specs.Delivery.{moment, bus_at, answer_at}
use Rattle.bus.specs.declared.Bus.{Bus}
use Rattle.bus.specs.Settling.{answered}
use Rattle.bus.specs.declared.Answer.{Answer}
use Rattle.bus.specs.Types.ev
use Rattle.runner.specs.Runner.{step_of, steps}
use Rattle.runner.specs.Ties.{name_at}
use Rattle.runner.specs.Lists.{LedFrom, LedTo}

-- What no call changes: a party keeps the name that its build gave it, so that a host can tell from any bus which
-- parties have secondaries (document 02, Q-3).

-- On every bus that a start, calls and runs lead to.
abbrev pub Named : Type 0
Named = (names : List Name) (b : Bus) → LedFrom names b → (p : ℕ) → p < length names
    → name_at b p ≡ get_or names p (plain (address 0))

-- "A byte with nobody to take it is kept" (document 02, Q-2): what the definition of noacc comes to on the buses there
-- are.

-- Party p is a source in SDYS with the byte v, END e, on offer, and there is no acceptor: nobody drives NRFD or NDAC.
pub record Alone (b : Bus) (p v : ℕ) (e : Bool) : Type 0 where
  pub there : p < b.count
  pub source : is_source (lines b).atn (here b p) ≡ true
  pub ready : (here b p).source ≡ Sdys
  pub offers : offer (is_polled (lines b).atn (here b p)) (here b p) ≡ Some (byte v e)
  pub quiet : (lines b).nrfd ≡ false
  pub nobody : (lines b).ndac ≡ false

-- Noacc with that byte and its END, nothing dropped, nothing broken off, and the bus as it was.
abbrev pub kept : Bus → ℕ → ℕ → Bool → Answer
kept b p v e = answered false (say ev.Noacc v
    (end_of (kind_of (is_active (here b p)) (is_polled (lines b).atn (here b p))) e) 0) b

pub record Keeps (b : Bus) : Type 0 where
  -- "noacc leaves the held byte in its register and the source in SDYS"
  pub says : (p v : ℕ) (e : Bool) → Alone b p v e → m.call b (step_of p) ≡ kept b p v e
  -- "Each further step says noacc again": whosever turns they are and in what order, turns alone change nothing.
  pub again : (p v : ℕ) (e : Bool) → Alone b p v e → (turns : List ℕ) → m.run b (steps turns) ≡ b
  -- "until an acceptor appears or the byte is off offer": no other step says noacc.
  pub only : (p : ℕ) → (m.call b (step_of p)).event ≡ ev.Noacc → (v : ℕ) × (e : Bool) × Alone b p v e

-- On every bus that a start, calls and runs lead to.
abbrev pub KeepsByte : Type 0
KeepsByte = (b : Bus) → LedTo b → Keeps b

-- The same over lists of any calls.

-- "a byte on offer (polled: the status byte, else the held byte)": party p is a source, and offers the byte v, END e,
-- as one of this kind.
pub record OnOffer (b : Bus) (p v : ℕ) (e : Bool) (k : Kind) : Type 0 where
  pub there : p < b.count
  pub source : is_source (lines b).atn (here b p) ≡ true
  pub offers : offer (is_polled (lines b).atn (here b p)) (here b p) ≡ Some (byte v e)
  pub kind : kind_of (is_active (here b p)) (is_polled (lines b).atn (here b p)) ≡ k

-- There is no acceptor: nobody drives NRFD or NDAC.
abbrev pub Unattended : Bus → Type 0
Unattended b = ((lines b).nrfd ≡ false) × ((lines b).ndac ≡ false)

-- Call i, a step of party p, says noacc. "Each further step says noacc again until an acceptor appears or the byte is
-- off offer", whatever calls come between: as long as neither is so up to call l, call l, if it is a step of p, says
-- noacc with that byte and leaves the bus.
abbrev pub SaysAgain : Type 0
SaysAgain = (b : Bus) → LedTo b → (cs : List Call) (p v : ℕ) (e : Bool) (k : Kind) (i l : ℕ)
    → (moment b cs i).call ≡ step_of p → (answer_at b cs i).event ≡ ev.Noacc → i ≤ l → l < length cs
    → ((j : ℕ) → i ≤ j → j ≤ l → OnOffer (bus_at b cs j) p v e k × Unattended (bus_at b cs j))
    → (moment b cs l).call ≡ step_of p → answer_at b cs l ≡ kept (bus_at b cs l) p v e
