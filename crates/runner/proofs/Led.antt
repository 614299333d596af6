-- Every bus that a start, calls and runs lead to keeps the invariant, and demand 3 holds of lists with runs.
-- Assumes nothing.
use mathlib.Core.Path.{sym, subst}
use Rattle.std.proofs.Common.{List}
use Rattle.bus.specs.declared.Bus.{Bus}
use Rattle.bus.specs.Machine as m
use Rattle.bus.specs.Types.{Name, Call}
use Rattle.bus.proofs.Theorem.{delivery}
use Rattle.bus.proofs.Invariant.{Inv}
use Rattle.bus.proofs.Reached.{reached}
use Rattle.runner.specs.Lists.{expanded, Start, built, led, LedTo, DeliveryWithRuns}
use Rattle.runner.proofs.Lists.{stands_for_steps}

pub led_inv : (b : Bus) → LedTo b → Inv b
led_inv _ (names, led {b} s tie xs) = subst Inv (sym (stands_for_steps tie b xs)) (from names b s (expanded tie b xs))
  where
    from : (names : List Name) (b : Bus) → Start names b → (cs : List Call) → Inv (m.run b cs)
    from names b (built system ok) cs = reached names system ok cs

pub delivery_with_runs : DeliveryWithRuns
delivery_with_runs names b (built system ok) tie xs = delivery names system ok (expanded tie b xs)
