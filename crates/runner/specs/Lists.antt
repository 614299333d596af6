-- Lists of calls and runs, "In a list of demand 3 a run stands for its steps" (document 02, Q-1), and the buses that
-- they lead to: the buses that the laws of the crates above are about.
-- Assumes nothing.
use Rattle.std.specs.Prelude.{ℕ, ◌≡◌, List, [], ◌∷◌, ◌++◌}
use Rattle.bus.specs.declared.Bus.{Bus}
use Rattle.bus.specs.Record.{build_extended}
use Rattle.bus.specs.Machine as m
use Rattle.bus.specs.Delivery.{Delivered}
use Rattle.bus.specs.Types.{Place, Name, Call}
use Rattle.runner.specs.Waiting.{TieOrder}
use Rattle.runner.specs.Runner.{steps, turns_of, give_turns}
use Rattle.std.specs.Prelude.{Ok}

-- What a host does: a call, or a run of so many turns. A list has these for its items.
pub data Item : Type 0 where
  call : Call → Item
  run : ℕ → Item

-- The tie order may be one that is read off the bus.
module _ (tie : Bus → TieOrder) where
  -- The bus that a list leads to.
  abbrev pub led_by : Bus → List Item → Bus
  led_by b [] = b
  led_by b (call c ∷ xs) = led_by (m.call b c).bus xs
  led_by b (run t ∷ xs) = led_by (give_turns (tie b) b t).bus xs

  -- The list with each run replaced by its steps.
  abbrev pub expanded : Bus → List Item → List Call
  expanded b [] = []
  expanded b (call c ∷ xs) = c ∷ expanded (m.call b c).bus xs
  expanded b (run t ∷ xs) = steps (turns_of (tie b) b t) ++ expanded (give_turns (tie b) b t).bus xs

-- A list with runs leads to the bus that the list of its steps leads to.
abbrev pub StandsForSteps : Type 0
StandsForSteps = (tie : Bus → TieOrder) (b : Bus) (xs : List Item) → led_by tie b xs ≡ m.run b (expanded tie b xs)

-- How a bus starts, and what its parties are named: "a bus that an accepted build gave".
pub data Start (names : List Name) : Bus → Type 0 where
  built : (system : Place) → (build_extended names system).verdict ≡ Ok tt
      → Start names (build_extended names system).bus

-- The buses that such a start and any list of calls and runs lead to, whatever order ties go by.
pub data LedFrom (names : List Name) : Bus → Type 0 where
  led : {b : Bus} → Start names b → (tie : Bus → TieOrder) (xs : List Item) → LedFrom names (led_by tie b xs)

-- The buses there are.
abbrev pub LedTo : Bus → Type 0
LedTo b = (names : List Name) × LedFrom names b

-- Demand 3 for every list of calls and runs.
abbrev pub DeliveryWithRuns : Type 0
DeliveryWithRuns = (names : List Name) (b : Bus) → Start names b → (tie : Bus → TieOrder) (xs : List Item)
    → Delivered b (expanded tie b xs)
