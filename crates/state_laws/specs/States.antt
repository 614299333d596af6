-- Sentences of document 01 about states and answers, for every bus that a start, calls and runs lead to.
-- Assumes nothing.
use Rattle.std.specs.Prelude.{ℕ, ◌≤◌, ◌≡◌, Bool, true, false, Some, None, Err}
use Rattle.party.specs.Parts.{idle}
use Rattle.party.specs.Sending.{is_source, is_polled}
use Rattle.party.specs.Settling.{settled}
use Rattle.parties.specs.Places.{place}
use Rattle.effect.specs.Calls.{is_accepted}
use Rattle.effect.specs.Stands.{stands, sent}
use Rattle.bus.specs.declared.Bus.{Bus}
use Rattle.bus.specs.Types.{Place, Sids, Strs, Aids, Acrs, Kind, Command, Data, Status, Call}
use Rattle.bus.specs.Types.ruling
use Rattle.bus.specs.Record.{here, lines}
use Rattle.bus.specs.Machine as m
use Rattle.runner.specs.Lists.{LedTo}

pub record States (b : Bus) : Type 0 where
  -- "A byte stands exactly while its sender is in STRS."
  pub sender : (p : Place) (k : Kind) (v : ℕ) (e : Bool) → b.standing ≡ Some (sent p k v e) → (here b p.0).source ≡ Strs
  pub strs : (j : ℕ) → (here b j).source ≡ Strs
      → (k : Kind) × (v : ℕ) × (e : Bool) × (b.standing ≡ Some (sent (place j) k v e))
  -- Its sender is a source; it is a status byte exactly where the sender is polled, and data if it has END.
  pub sender_source : (p : Place) (k : Kind) (v : ℕ) (e : Bool) → b.standing ≡ Some (sent p k v e)
      → is_source (lines b).atn (here b p.0) ≡ true
  pub status_if_polled : (p : Place) (k : Kind) (v : ℕ) (e : Bool) → b.standing ≡ Some (sent p k v e)
      → is_polled (lines b).atn (here b p.0) ≡ true → k ≡ Status
  pub polled_if_status : (p : Place) (v : ℕ) (e : Bool) → b.standing ≡ Some (sent p Status v e)
      → is_polled (lines b).atn (here b p.0) ≡ true
  pub end_on_data : (p : Place) (k : Kind) (v : ℕ) → b.standing ≡ Some (sent p k v true) → k ≡ Data
  -- "DAV: some source in STRS.": exactly while a byte stands.
  pub dav : (lines b).dav ≡ stands b.standing
  -- "places without a party hold it": the idle party.
  pub no_party : (j : ℕ) → b.count ≤ j → here b j ≡ idle
  -- "A non-source goes to SIDS ..; a source in SIDS to SGNS.": no source is in SIDS, and any other party is. No two
  -- parties are sources.
  pub not_in_sids : (j : ℕ) → is_source (lines b).atn (here b j) ≡ true → (here b j).source ≡ Sids → ⊥
  pub in_sids : (j : ℕ) → is_source (lines b).atn (here b j) ≡ false → (here b j).source ≡ Sids
  pub one_source : (i j : ℕ) → is_source (lines b).atn (here b i) ≡ true → is_source (lines b).atn (here b j) ≡ true
      → i ≡ j
  -- With ATN false the listeners, and nobody else, are out of AIDS; who is in ACRS then has its data-in empty.
  pub listeners : (lines b).atn ≡ false → (j : ℕ) → (here b j).role.listen ≡ true → (here b j).acceptor ≡ Aids → ⊥
  pub others : (lines b).atn ≡ false → (j : ℕ) → (here b j).role.listen ≡ false → (here b j).acceptor ≡ Aids
  pub room : (lines b).atn ≡ false → (j : ℕ) → (here b j).acceptor ≡ Acrs → (here b j).input ≡ None
  -- With ATN false at most one party has talk on.
  pub one_talker : (lines b).atn ≡ false → (i j : ℕ) → (here b i).role.talk ≡ true → (here b j).role.talk ≡ true → i ≡ j
  -- Where a command ends at most one party other than its sender has talk on: when TCT ends, "control goes to the
  -- talk-on party other than the sender".
  pub one_other : (p : Place) (v : ℕ) (e : Bool) → b.standing ≡ Some (sent p Command v e) → (lines b).ndac ≡ false
      → (i j : ℕ) → (i ≡ p.0 → ⊥) → (j ≡ p.0 → ⊥)
      → (here b i).role.talk ≡ true → (here b j).role.talk ≡ true → i ≡ j
  -- No party talks and listens.
  pub not_both : (j : ℕ) → (here b j).role.talk ≡ true → (here b j).role.listen ≡ true → ⊥
  -- "After each accepted call every party settles.": to settle once more changes nothing.
  pub settles : (j : ℕ) → settled (lines b).atn (here b j) ≡ here b j

abbrev pub EveryState : Type 0
EveryState = (b : Bus) → LedTo b → States b

-- "dropped (0 to 2), broken (0 or 1)": in every answer to a call.
abbrev pub FewDropped : Type 0
FewDropped = (b : Bus) → LedTo b → (c : Call) → (m.call b c).dropped ≤ 2

abbrev pub OneBroken : Type 0
OneBroken = (b : Bus) (c : Call) → (m.call b c).broken ≤ 1

-- "A refusal returns .., and the bus is unchanged": on any bus.
abbrev pub RefusedLeaves : Type 0
RefusedLeaves = (b : Bus) (c : Call) → is_accepted (m.call b c).verdict ≡ false → (m.call b c).bus ≡ b

-- No call answers RECORD, on any bus: that is for scripts.
abbrev pub NeverRecord : Type 0
NeverRecord = (b : Bus) (c : Call) → (m.call b c).verdict ≡ Err ruling.Record → ⊥
