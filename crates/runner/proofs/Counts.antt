-- The counts: how often each place had a turn, as the steps of a run say.
-- Assumes nothing.
use mathlib.Core.Path.{◌≡◌, refl, ap, ◌∙◌}
use mathlib.Core.List.{List, [], ◌∷◌, ◌++◌}
use Prim.Native.Nat.{ℕ, ◌+◌, ◌≤◌, ◌<◌}
use native.Mathlib.Omega.{arith}
use lib.ListN.{length, get_or, set, replicate, length-set, length-replicate}
use lib.Dec.{eqb}
use Rattle.std.proofs.lemmas.Bool.Decides.{nat_tests}
use Rattle.std.proofs.lemmas.Grind.{common_steps}
use Rattle.party.specs.Parts.{one}
use Rattle.bus.specs.declared.Bus.{Bus}
use Rattle.bus.specs.Machine as m
use Rattle.bus.specs.Delivery.{tally, history}
use Rattle.runner.specs.Runner.{step_of, steps}
use Rattle.runner.specs.Runner.{turns_of, counted, is_step_of, Counts}
use Rattle.runner.proofs.Queue.{wait_zero}

-- how often place k is in a list of turns
abbrev pub occurs : ℕ → List ℕ → ℕ
occurs k [] = 0
occurs k (x ∷ xs) = one (eqb k x) + occurs k xs

counted_next : (cs xs : List ℕ) (x k : ℕ) → k < length cs
    → get_or (set cs x (get_or cs x 0 + 1)) k 0 + occurs k xs ≡ get_or cs k 0 + occurs k (x ∷ xs)
counted_next cs xs x k l = grind (arith, nat_tests, common_steps)

counted_at : (cs xs : List ℕ) (k : ℕ) → k < length cs → get_or (counted cs xs) k 0 ≡ get_or cs k 0 + occurs k xs
counted_at cs [] k l = omega arith
counted_at cs (x ∷ xs) k l = counted_at (set cs x (get_or cs x 0 + 1)) xs k (rw length-set l)
    ∙ counted_next cs xs x k l

-- the steps say the same
steps_say : (b : Bus) (k : ℕ) (xs : List ℕ) → tally (λ x. one (is_step_of k x.call)) (history b (steps xs)) ≡ occurs k
    xs
steps_say b k [] = refl
steps_say b k (x ∷ xs) = ap (λ (n : ℕ). one (eqb k x) + n) (steps_say (m.call b (step_of x)).bus k xs)

pub counts : Counts
counts tie b t k l =
    let z = wait_zero 15 k in
    let y = steps_say b k (turns_of tie b t) in
    let x = counted_at (replicate 15 0) (turns_of tie b t) k (rw length-replicate l) in
    omega arith

pub counted_append : (cs xs ys : List ℕ) → counted cs (xs ++ ys) ≡ counted (counted cs xs) ys
counted_append cs [] ys = refl
counted_append cs (x ∷ xs) ys = counted_append (set cs x (get_or cs x 0 + 1)) xs ys

-- a turn adds one at most
pub turn_adds : (cs : List ℕ) (x v t : ℕ) → v ≤ t + 1 → ((j : ℕ) → get_or cs j 0 ≤ t) → (j : ℕ)
    → get_or (set cs x v) j 0 ≤ t + 1
turn_adds cs x v t l h j = grind (arith, common_steps, h j)
