-- The number of lines of a script.
-- Assumes nothing.
use mathlib.Core.Path.{◌≡◌, refl}
use mathlib.Core.Bool.{Bool, true, false, cond}
use mathlib.Core.List.{List}
use Prim.Native.Nat.{ℕ, ◌+◌, ◌/◌, ◌<◌, ◌≤◌}
use native.Mathlib.Omega.{arith}
use lib.Dec.{ltb}
use lib.ListN.{length}
use borrow.Author.Tests.{ltb-false, lt-ltb, le-ltb}
use Rattle.run.specs.Run.{line_count}

pub over : (s : List ℕ) → 65532 < length s → line_count s ≡ 1
unfolding line_count
over s h = simp (lt-ltb _ _ h)

pub within : (s : List ℕ) → length s ≤ 65532 → line_count s ≡ (length s + 5) / 6
unfolding line_count
within s h = simp (le-ltb _ _ h)

by_length : (n : ℕ) (t : Bool) → ltb 65532 n ≡ t → cond t 1 ((n + 5) / 6) ≤ 10922
by_length n true e = omega arith
by_length n false e = let h : n ≤ 65532 = ltb-false _ _ e in omega arith

-- no script has more than 10,922 lines
pub at_most : (s : List ℕ) → line_count s ≤ 10922
unfolding line_count
at_most s = by_length (length s) _ refl
