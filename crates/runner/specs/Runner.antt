-- A run of turns, and what it answers (document 02, Q-1).
-- Assumes nothing.
use Rattle.std.specs.Prelude.{ℕ, ◌+◌, ◌<◌, ◌≡◌, Bool, false, cond, List, [], ◌∷◌, map, eqb, get_or, set, replicate}
use Rattle.party.specs.Parts.{one}
use Rattle.parties.specs.Places.{place, within}
use Rattle.effect.specs.Calls.{act_number}
use Rattle.bus.specs.declared.Bus.{Bus}
use Rattle.bus.specs.Machine as m
use Rattle.bus.specs.Delivery.{tally, history}
use Rattle.bus.specs.Types.{Call, Verdict}
use Rattle.runner.specs.declared.Given.{Given}
use Rattle.bus.specs.Types.ruling
use Rattle.bus.specs.Types.call_of
use Rattle.bus.specs.Types.act_of
use Rattle.runner.specs.Waiting.{TieOrder, turns}
use Rattle.std.specs.Prelude.{Ok, Err}

-- The call that steps the party at a place; a step for each place of a list.
abbrev pub step_of : ℕ → Call
step_of k = call_of.Of (place k) act_of.Step

abbrev pub steps : List ℕ → List Call
steps xs = map step_of xs

-- The places that have the turns of a run of t turns ("0 to 65,535"; here any number). A bus of no parties has none to
-- give them to; a bus value with more than fifteen, which no build gives, has fifteen.
abbrev pub turns_of : TieOrder → Bus → ℕ → List ℕ
turns_of tie b t = cond (eqb b.count 0) [] (turns tie (within b.count) t)

-- "how many turns each party had": each turn counts at its place.
abbrev pub counted : List ℕ → List ℕ → List ℕ
counted counts [] = counts
counted counts (x ∷ xs) = counted (set counts x (get_or counts x 0 + 1)) xs

-- "a bus of no parties is refused with 1"
abbrev pub verdict_of : Bus → Verdict
verdict_of b = cond (eqb b.count 0) (Err ruling.NoParty) (Ok tt)

-- The whole answer of a run, and the bus after it. The refused run has no turns: its bus is unchanged, and its counts
-- are all 0.
abbrev pub give_turns : TieOrder → Bus → ℕ → Given
give_turns tie b t = record {
  verdict = verdict_of b;
  counts = counted (replicate 15 0) (turns_of tie b t);
  bus = m.run b (steps (turns_of tie b t));
}

-- The counts are what the steps say: for each place as many as the run has steps of it.
abbrev pub is_step_of : ℕ → Call → Bool
is_step_of k (call_of.Of p a) = cond (eqb (act_number a) 1) (eqb k p.0) false
is_step_of k call_of.Lines = false
is_step_of k call_of.Drivers = false

abbrev pub Counts : Type 0
Counts = (tie : TieOrder) (b : Bus) (t k : ℕ) → k < 15
    → get_or (give_turns tie b t).counts k 0
    ≡ tally (λ x. one (is_step_of k x.call)) (history b (steps (turns_of tie b t)))
