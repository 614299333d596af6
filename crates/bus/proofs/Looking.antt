-- What is computed of each call of a list holds of every call: for examples and counterexamples.
-- Assumes nothing.
use mathlib.Core.Path.{◌≡◌, refl}
use mathlib.Core.Bool.{Bool, true, false, not, ◌&&◌}
use Prim.Native.Nat.{ℕ, zero, suc, ◌+◌, ◌<◌, ◌≤◌}
use native.Mathlib.Omega.{arith}
use lib.Dec.{eqb}
use borrow.Author.Tests.{eqb-true, eqb-false}
use Rattle.role.proofs.Logic.{no}

-- what was looked at from a on, n times
abbrev pub looked : ℕ → ℕ → (ℕ → Bool) → Bool
looked a zero f = true
looked a (suc n) f = f a && looked (suc a) n f

pub holds : (a n : ℕ) (f : ℕ → Bool) → looked a n f ≡ true → (j : ℕ) → a ≤ j → j < a + n → f j ≡ true
holds a zero f h j l m = absurd (none l m)
  where
    none : a ≤ j → j < a + 0 → ⊥
    none l m = omega arith
holds a (suc n) f h j l m = go (λ k. holds (suc a) n f k j) (f a) refl h (eqb j a) refl
  where
    go : (looked (suc a) n f ≡ true → suc a ≤ j → j < suc a + n → f j ≡ true) → (x : Bool) → f a ≡ x
        → (x && looked (suc a) n f) ≡ true → (y : Bool) → eqb j a ≡ y → f j ≡ true
    go R true e k true g = rw (eqb-true j a g) e
    go R true e k false g = let ne : (j ≡ a → ⊥) = eqb-false j a g in R k (omega arith) (omega arith)
    go R false e k y g = no (cc)

pub of_false : (x : Bool) → not x ≡ true → x ≡ true → ⊥
of_false true h e = no (cc)
of_false false h e = no (cc)

pub not_false : (x : Bool) → not x ≡ false → x ≡ true
not_false true e = refl
not_false x e = no (cc)

pub not_true : (x : Bool) → not x ≡ true → x ≡ false
not_true false e = refl
not_true x e = no (cc)
