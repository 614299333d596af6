-- The names that a build accepts: fifteen at the most, and no two of them clash.
-- Assumes nothing.
use mathlib.Core.Path.{◌≡◌, refl, ap}
use mathlib.Core.Bool.{Bool, true, false, not, ◌||◌}
use mathlib.Core.List.{List, [], ◌∷◌}
use Prim.Native.Nat.{ℕ, zero, suc, ◌≤◌, ◌<◌}
use native.Mathlib.Nat.{not-suc-le-zero, le_of_suc-le-suc}
use lib.Dec.{ltb, eqb}
use lib.ListN.{length, get_or}
use borrow.Author.Tests.{ltb-false}
use Rattle.message.specs.Meaning.{address}
use Rattle.names.specs.declared.Name.{Name}
use Rattle.names.specs.Names.{plain, clashes}
use Rattle.names.proofs.Clashes.{clash_sym}
use Rattle.names.proofs.Logic.{no}
use Rattle.std.proofs.lemmas.Bool.{or_parts}
use Rattle.party.specs.declared.Place.{Place}
use Rattle.addresses.specs.Addresses.{any_over30, clashes_with, two_clash, bad_build}

-- what is found past the end of a list of names
abbrev pub beyond : Name
beyond = plain (address 0)

none_of : (a b c d e : Bool) → (a || b || c || d || e) ≡ false → (b ≡ false) × (d ≡ false)
none_of a b c d e h = let x = or_parts (a || b || c) d (or_parts (a || b || c || d) e h).0 in
    ((or_parts a b (or_parts (a || b) c x.0).0).1, x.1)

absent : (n : Name) (xs : List Name) → clashes_with n xs ≡ false → (j : ℕ) → j < length xs
    → clashes n (get_or xs j beyond) ≡ true → ⊥
absent n [] e j h f = not-suc-le-zero h
absent n (x ∷ xs) e zero h f = let z = (or_parts (clashes n x) (clashes_with n xs) e).0 in no (cc)
absent n (x ∷ xs) e (suc j) h f = absent n xs (or_parts (clashes n x) (clashes_with n xs) e).1 j (le_of_suc-le-suc h) f

distinct : (xs : List Name) → two_clash xs ≡ false → (i j : ℕ) → i < length xs → j < length xs
    → clashes (get_or xs i beyond) (get_or xs j beyond) ≡ true → i ≡ j
distinct [] e i j h k f = absurd (not-suc-le-zero h)
distinct (x ∷ xs) e zero zero h k f = refl
distinct (x ∷ xs) e zero (suc j) h k f = absurd
    (absent x xs (or_parts (clashes_with x xs) (two_clash xs) e).0 j (le_of_suc-le-suc k) f)
distinct (x ∷ xs) e (suc i) zero h k f = absurd
    (absent x xs (or_parts (clashes_with x xs) (two_clash xs) e).0 i (le_of_suc-le-suc h)
    (clash_sym (get_or xs i beyond) x f))
distinct (x ∷ xs) e (suc i) (suc j) h k f = ap suc
    (distinct xs (or_parts (clashes_with x xs) (two_clash xs) e).1 i j (le_of_suc-le-suc h) (le_of_suc-le-suc k) f)

module _ (xs : List Name) (s : Place) (ok : bad_build xs s ≡ false) where
  -- "over 15 parties", two of one name: it is neither
  neither : (ltb 15 (length xs) ≡ false) × (two_clash xs ≡ false)
  neither = none_of (eqb (length xs) 0) (ltb 15 (length xs)) (any_over30 xs) (two_clash xs) (not (ltb s.0 (length xs)))
      ok

  pub fits : length xs ≤ 15
  fits = ltb-false 15 (length xs) neither.0

  pub apart : (i j : ℕ) → i < length xs → j < length xs → clashes (get_or xs i beyond) (get_or xs j beyond) ≡ true
      → i ≡ j
  apart = distinct xs neither.1
