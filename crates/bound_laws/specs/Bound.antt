-- The bound of a run (document 02, Q-1): "Take a bus of n parties that an accepted build and calls led to, with ATN
-- false, exactly one talker, not polled, in SGNS with a held byte. At least one party listens and every data-in is
-- empty. A single run from there of at least 7 times n turns ends that byte within its first 7 times n." Puts, standing
-- and ending are demand 3's (crates/bus/specs/Delivery.antt).
-- Assumes nothing.
use Rattle.std.specs.Prelude.{ℕ, ◌*◌, ◌≤◌, ◌<◌, ◌≡◌, Bool, true, false, List, Some, None}
use Rattle.party.specs.Sending.{is_polled}
use Rattle.bus.specs.declared.Bus.{Bus}
use Rattle.bus.specs.Record.{here, lines}
use Rattle.bus.specs.Delivery.{moment, answer_at, PutAt, EndsAt, StandsAt}
use Rattle.bus.specs.Types.{Sgns, Call}
use Rattle.bus.specs.Types.ev
use Rattle.runner.specs.Waiting.{TieOrder, Orders}
use Rattle.runner.specs.Runner.{step_of, steps, turns_of}
use Rattle.runner.specs.Lists.{LedTo}
use Rattle.runner.specs.Ties.{by_address}
use Rattle.offer.specs.Offer.{byte}

-- Party p talks, with the byte v, END e, held, and party w listens. That nobody else talks need not be asked: on these
-- buses nobody does.
pub record Offered (b : Bus) (p w v : ℕ) (e : Bool) : Type 0 where
  pub there : p < b.count
  pub quiet : (lines b).atn ≡ false
  pub talks : (here b p).role.talk ≡ true
  pub unpolled : is_polled (lines b).atn (here b p) ≡ false
  pub ready : (here b p).source ≡ Sgns
  pub held : (here b p).held ≡ Some (byte v e)
  pub listens : (here b w).role.listen ≡ true
  pub empty : (j : ℕ) → j < b.count → (here b j).input ≡ None

-- The byte v, END e is put up by a step of party p, the first byte of the list, and ends by another before call m.
pub record EndsWithin (b : Bus) (cs : List Call) (p v : ℕ) (e : Bool) (m : ℕ) : Type 0 where
  pub put : ℕ
  pub end : ℕ
  pub soon : end < m
  pub stands : StandsAt b cs put end
  pub ends : EndsAt b cs end
  pub first : (j : ℕ) → j < put → PutAt b cs j → ⊥
  pub putter : (moment b cs put).call ≡ step_of p
  pub put_says : (answer_at b cs put).event ≡ ev.Data
  pub put_value : (answer_at b cs put).byte ≡ v
  pub put_end : (answer_at b cs put).end ≡ e
  pub ender : (moment b cs end).call ≡ step_of p
  pub end_says : (answer_at b cs end).event ≡ ev.Ended
  pub end_value : (answer_at b cs end).byte ≡ v
  pub end_end : (answer_at b cs end).end ≡ e

-- A single run of at least 7 times n turns, from the bus b.
abbrev pub EndsSoon : TieOrder → Bus → Type 0
EndsSoon tie b = (p w v : ℕ) (e : Bool) → Offered b p w v e → (t : ℕ) → 7 * b.count ≤ t
    → EndsWithin b (steps (turns_of tie b t)) p v e (7 * b.count)

-- From every bus that a start, calls and runs lead to, whatever order the ties go by.
abbrev pub Bound : Type 0
Bound = (b : Bus) → LedTo b → (tie : TieOrder) → Orders tie b.count → EndsSoon tie b

-- By address: "The bound of 7 times n turns must come out the same" (document 02, Q-7).
abbrev pub BoundByAddress : Type 0
BoundByAddress = (b : Bus) → LedTo b → EndsSoon (by_address b) b
