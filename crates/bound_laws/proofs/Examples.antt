-- The example holds: the definitions compute it.
-- Assumes nothing.
use mathlib.Core.Path.{◌≡◌, refl}
use mathlib.Core.Bool.{true}
use Prim.Native.Nat.{ℕ, zero, suc, ◌<◌}
use native.Mathlib.Nat.{not-suc-le-zero, le_of_suc-le-suc}
use Rattle.std.specs.Prelude.{None}
use Rattle.bus.specs.Record.{here}
use Rattle.runner.specs.Examples.{after}
use Rattle.bound_laws.specs.Bound.{Offered}
use Rattle.bound_laws.specs.Examples.{slow, Examples}

offered : Offered (after slow) 0 1 65 true
offered = record {
  there = lib.Dec.lit< tt;
  quiet = refl;
  talks = refl;
  unpolled = refl;
  ready = refl;
  held = refl;
  listens = refl;
  empty = each;
}
  where
    each : (j : ℕ) → j < 2 → (here (after slow) j).input ≡ None
    each zero l = refl
    each (suc zero) l = refl
    each (suc (suc j)) l = absurd (not-suc-le-zero (le_of_suc-le-suc (le_of_suc-le-suc l)))

pub examples : Examples
examples = record { premises = offered; not_in_five_rounds = refl; in_one_turn_more = refl }
