-- The laws of the loops over the names of a build: a search through a list, and the filling of the places.
-- Assumes nothing.
use mathlib.Core.Path.{◌≡◌, refl, sym, ap, ◌∙◌}
use mathlib.Core.Bool.{Bool, false, ◌||◌, or_assoc, or-false}
use mathlib.Core.List.{List, [], ◌∷◌}
use Prim.Native.Nat.{ℕ, zero, suc, ◌+◌, ◌≤◌, ◌<◌}
use native.Mathlib.Numerals.{add-one}
use native.Mathlib.Omega.{arith}
use native.Mathlib.Nat.{not-suc-le-zero, le_of_suc-le-suc}
use lib.ListN.{length, get_or, set, take, drop, drop_of_length-le}
use lib.Seq.{drop-cons, take_all}
use Rattle.message.specs.Meaning.{address}
use Rattle.names.specs.declared.Name.{Name}
use Rattle.names.specs.Names.{plain}
use Rattle.party.specs.Parts.{built_party}
use Rattle.party.specs.declared.Party.{Party}
use Rattle.addresses.specs.Addresses.{secondary_given, names, placed}

-- names from two lists: as many as there are addresses
pub names_length : (xs ss : List ℕ) → length (names xs ss) ≡ length xs
names_length [] ss = refl
names_length (a ∷ xs) [] = ap suc (names_length xs [])
names_length (a ∷ xs) (s ∷ ss) = ap suc (names_length xs ss)

-- and each from its place in both
pub name_past : (xs ss : List ℕ) (i : ℕ) (d : Name) → length xs ≤ i → get_or (names xs ss) i d ≡ d
name_past [] ss i d h = refl
name_past (a ∷ xs) ss zero d h = absurd (not-suc-le-zero h)
name_past (a ∷ xs) [] (suc i) d h = name_past xs [] i d (le_of_suc-le-suc h)
name_past (a ∷ xs) (s ∷ ss) (suc i) d h = name_past xs ss i d (le_of_suc-le-suc h)

pub name_plain : (xs ss : List ℕ) (i : ℕ) (d : Name) → i < length xs → length ss ≤ i
    → get_or (names xs ss) i d ≡ plain (address (get_or xs i 0))
name_plain [] ss i d h l = absurd (not-suc-le-zero h)
name_plain (a ∷ xs) [] zero d h l = refl
name_plain (a ∷ xs) (s ∷ ss) zero d h l = absurd (not-suc-le-zero l)
name_plain (a ∷ xs) [] (suc i) d h l = name_plain xs [] i d (le_of_suc-le-suc h) (omega arith)
name_plain (a ∷ xs) (s ∷ ss) (suc i) d h l = name_plain xs ss i d (le_of_suc-le-suc h) (le_of_suc-le-suc l)

pub name_both : (xs ss : List ℕ) (i : ℕ) (d : Name) → i < length xs → i < length ss
    → get_or (names xs ss) i d ≡
    record { address = address (get_or xs i 0); secondary = secondary_given (get_or ss i 0) }
name_both [] ss i d h l = absurd (not-suc-le-zero h)
name_both (a ∷ xs) [] i d h l = absurd (not-suc-le-zero l)
name_both (a ∷ xs) (s ∷ ss) zero d h l = refl
name_both (a ∷ xs) (s ∷ ss) (suc i) d h l = name_both xs ss i d (le_of_suc-le-suc h) (le_of_suc-le-suc l)

-- g looks through a list: h of each element and what follows it. Before turn i the loop has f, and f or what is left to
-- find is all that there is to find.
module _ (g : List Name → Bool) (h : Name → List Name → Bool) (none : g [] ≡ false)
    (more : (x : Name) (xs : List Name) → g (x ∷ xs) ≡ (h x xs || g xs)) (l : List Name) (i : ℕ) (f all : Bool)
    (inv : (f || g (drop i l)) ≡ all) where
  pub scan_turn : (d : Name) (q : Bool) → i < length l → q ≡ (f || h (get_or l i d) (drop (i + 1) l))
      → (q || g (drop (i + 1) l)) ≡ all
  scan_turn d q m e = ap (λ (x : Bool). x || g (drop (i + 1) l)) e
      ∙ or_assoc f (h (get_or l i d) (drop (i + 1) l)) (g (drop (i + 1) l)) ∙ ap (λ (x : Bool). f || x) (sym rest)
      ∙ inv
    where
      rest : g (drop i l) ≡ (h (get_or l i d) (drop (i + 1) l) || g (drop (i + 1) l))
      rest = rw (add-one i) (ap g (drop-cons l i d m) ∙ more (get_or l i d) (drop (suc i) l))

  pub scan_done : length l ≤ i → f ≡ all
  scan_done m = sym (or-false f) ∙ ap (λ (x : Bool). f || x) (sym none ∙ sym (ap g (drop_of_length-le l m))) ∙ inv

-- the places: one name more, and as many as there are places
placed_suc : (n : ℕ) (xs : List Name) (k : ℕ) (d : Name) → k < length xs → k < n
    → set (placed n (take k xs)) k (built_party (get_or xs k d)) ≡ placed n (take (suc k) xs)
placed_suc zero xs k d h m = absurd (not-suc-le-zero m)
placed_suc (suc n) [] k d h m = absurd (not-suc-le-zero h)
placed_suc (suc n) (x ∷ xs) zero d h m = refl
placed_suc (suc n) (x ∷ xs) (suc k) d h m = ap (◌∷◌ (built_party x))
    (placed_suc n xs k d (le_of_suc-le-suc h) (le_of_suc-le-suc m))

pub place_turn : (xs : List Name) (k : ℕ) (d : Name) {out : List Party} {p : Party} → k < length xs → k < 15
    → out ≡ placed 15 (take k xs) → p ≡ built_party (get_or xs k d) → set out k p ≡ placed 15 (take (k + 1) xs)
place_turn xs k d h m i e = rw (add-one k, i, e) (placed_suc 15 xs k d h m)

pub place_done : (xs : List Name) (k : ℕ) {out : List Party} → length xs ≤ k → out ≡ placed 15 (take k xs)
    → out ≡ placed 15 xs
place_done xs k m i = i ∙ ap (placed 15) (take_all k xs m)
