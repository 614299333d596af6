-- Acceptors in either order (document 02, Q-10, which is quoted), on every bus that a start, calls and runs lead to. A
-- list of turns has a place for each turn. An answer is meant without its bus: `Report`.
-- Assumes nothing.
use Rattle.std.specs.Prelude.{ℕ, ◌+◌, ◌<◌, ◌≡◌, Bool, true, false, cond, List, [], ◌∷◌, ◌++◌, eqb, replicate}
use Rattle.party.specs.Parts.{one}
use Rattle.party.specs.Sending.{is_source}
use Rattle.bus.specs.declared.Bus.{Bus}
use Rattle.bus.specs.Types.{Call}
use Rattle.bus.specs.Types.call_of
use Rattle.bus.specs.Record.{here, lines}
use Rattle.bus.specs.Rows.{Report, report_of}
use Rattle.bus.specs.Machine as m
use Rattle.runner.specs.Runner.{step_of, steps}
use Rattle.runner.specs.Lists.{LedTo}

-- "neither of which is a source": a turn of party k is an acceptor step. A place without a party is no source either,
-- and its turn is refused.
abbrev pub NoSource : Bus → ℕ → Type 0
NoSource b k = is_source (lines b).atn (here b k) ≡ false

abbrev pub after_turn : Bus → ℕ → Bus
after_turn b k = (m.call b (step_of k)).bus

-- "stepping one and then the other gives the same bus as the reverse, and each party gets the same answer"
pub record Swapped (b : Bus) (i j : ℕ) : Type 0 where
  pub bus : after_turn (after_turn b i) j ≡ after_turn (after_turn b j) i
  pub one : report_of (m.call b (step_of i)) ≡ report_of (m.call (after_turn b j) (step_of i))
  pub other : report_of (m.call (after_turn b i) (step_of j)) ≡ report_of (m.call b (step_of j))

-- "for two different parties neither of which is a source"
abbrev pub Swap : Type 0
Swap = (b : Bus) → LedTo b → (i j : ℕ) → (i ≡ j → ⊥) → NoSource b i → NoSource b j → Swapped b i j

-- "Widen it to any two orders of the same such steps, one for each party."

-- How many turns of a list are those of party k.
abbrev pub turns_in : ℕ → List ℕ → ℕ
turns_in k [] = 0
turns_in k (x ∷ xs) = one (eqb k x) + turns_in k xs

-- Two lists are orders of the same turns: each party has as many in one as in the other. So have lists without repeats
-- that have the same members, "one for each party"; here a party may have several.
abbrev pub SameTurns : List ℕ → List ℕ → Type 0
SameTurns xs ys = (k : ℕ) → turns_in k xs ≡ turns_in k ys

-- No party with a turn in the list is a source on the bus that the list starts from.
abbrev pub NoSources : Bus → List ℕ → Type 0
NoSources b xs = (k : ℕ) → 0 < turns_in k xs → NoSource b k

-- The calls of party k, and those that name no party.
abbrev pub is_of : ℕ → Call → Bool
is_of k (call_of.Of p a) = eqb k p.0
is_of k call_of.Lines = false
is_of k call_of.Drivers = false

abbrev pub is_nobodys : Call → Bool
is_nobodys (call_of.Of p a) = false
is_nobodys call_of.Lines = true
is_nobodys call_of.Drivers = true

-- The answers to these among the calls of a list, one after the other.
abbrev pub reports_of : (Call → Bool) → Bus → List Call → List Report
reports_of these b [] = []
reports_of these b (c ∷ cs) = let rest = reports_of these (m.call b c).bus cs in
    cond (these c) (report_of (m.call b c) ∷ rest) rest

-- Two lists of calls give the same bus, and to each party the same answers one after the other.
pub record SameDumps (b : Bus) (cs ds : List Call) : Type 0 where
  pub bus : m.run b cs ≡ m.run b ds
  pub answers : (k : ℕ) → reports_of (is_of k) b cs ≡ reports_of (is_of k) b ds
  pub nobodys : reports_of is_nobodys b cs ≡ reports_of is_nobodys b ds

abbrev pub AnyOrder : Type 0
AnyOrder = (b : Bus) → LedTo b → (xs ys : List ℕ) → NoSources b xs → SameTurns xs ys → SameDumps b (steps xs) (steps ys)

-- The same in the midst of other calls: "Two users got differing dumps and suspected the turn order."

-- Two lists of calls that differ in the order of such turns alone. Between two other calls the turns of parties that
-- are no sources there may come in any order.
pub data Reordered : Bus → List Call → List Call → Type 0 where
  end : {b : Bus} → Reordered b [] []
  same : {b : Bus} {cs ds : List Call} (c : Call) → Reordered (m.call b c).bus cs ds → Reordered b (c ∷ cs) (c ∷ ds)
  turns : {b : Bus} {cs ds : List Call} (xs ys : List ℕ) → NoSources b xs → SameTurns xs ys
      → Reordered (m.run b (steps xs)) cs ds → Reordered b (steps xs ++ cs) (steps ys ++ ds)

abbrev pub TurnOrderUnseen : Type 0
TurnOrderUnseen = (b : Bus) → LedTo b → (cs ds : List Call) → Reordered b cs ds → SameDumps b cs ds

-- Why it is so: nobody sees the turns of others. Each party comes to what its own turns alone would bring it to, and
-- has the answers that it would have then; all else on the bus stays, and so does who is a source.

-- As many turns as the list has of party k, and nobody else's.
abbrev pub own_turns : ℕ → List ℕ → List Call
own_turns k xs = steps (replicate (turns_in k xs) k)

pub record ByItself (b : Bus) (xs : List ℕ) : Type 0 where
  pub party : (k : ℕ) → here (m.run b (steps xs)) k ≡ here (m.run b (own_turns k xs)) k
  pub answers : (k : ℕ) → reports_of (is_of k) b (steps xs) ≡ reports_of (is_of k) b (own_turns k xs)
  pub count : (m.run b (steps xs)).count ≡ b.count
  pub system : (m.run b (steps xs)).system ≡ b.system
  pub standing : (m.run b (steps xs)).standing ≡ b.standing
  pub source : (k : ℕ) → is_source (lines (m.run b (steps xs))).atn (here (m.run b (steps xs)) k)
      ≡ is_source (lines b).atn (here b k)

abbrev pub EachByItself : Type 0
EachByItself = (b : Bus) → LedTo b → (xs : List ℕ) → NoSources b xs → ByItself b xs
