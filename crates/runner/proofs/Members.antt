-- Lists of places: which are in them, that each is there once, and that each stands before every later one.
-- Assumes nothing.
use mathlib.Core.Path.{◌≡◌, refl, sym}
use mathlib.Core.Bool.{Bool, true, false, not, ◌&&◌, ◌||◌, or_assoc}
use mathlib.Core.List.{List, [], ◌∷◌, ◌++◌}
use Prim.Native.Nat.{ℕ, zero, suc, ◌<◌}
use native.Mathlib.Nat.{not-suc-le-zero, le_of_suc-le-suc}
use lib.ListN.{length, get_or}
use lib.Dec.{eqb}
use native.Mathlib.Omega.{arith}
use Rattle.std.proofs.lemmas.Bool.Decides.{nat_tests}
use Rattle.role.proofs.Logic.{no, or_right}

abbrev pub member : ℕ → List ℕ → Bool
member k [] = false
member k (x ∷ xs) = eqb k x || member k xs

abbrev pub distinct : List ℕ → Bool
distinct [] = true
distinct (x ∷ xs) = not (member x xs) && distinct xs

-- every earlier one before every later one
abbrev pub Chain : (ℕ → ℕ → Bool) → List ℕ → Type 0
Chain R [] = Unit {0}
Chain R (x ∷ xs) = ((y : ℕ) → member y xs ≡ true → R x y ≡ true) × Chain R xs

pub first_in : (x : ℕ) (xs : List ℕ) → member x (x ∷ xs) ≡ true
first_in x xs = grind (arith, nat_tests)

pub member_append : (k : ℕ) (xs ys : List ℕ) → member k (xs ++ ys) ≡ (member k xs || member k ys)
member_append k [] ys = refl
member_append k (x ∷ xs) ys = rw (member_append k xs ys) (sym (or_assoc (eqb k x) (member k xs) (member k ys)))

pub split : (x y : Bool) → (not x && y) ≡ true → (x ≡ false) × (y ≡ true)
split x y e = grind arith

pub or_other : (x y : Bool) → (x || y) ≡ true → x ≡ false → y ≡ true
or_other x y e f = grind arith

pub apart : (xs : List ℕ) (x y : ℕ) → member x xs ≡ false → member y xs ≡ true → y ≡ x → ⊥
apart xs x y f t e = grind (arith, nat_tests)

pub distinct_snoc : (xs : List ℕ) (x : ℕ) → member x xs ≡ false → distinct xs ≡ true → distinct (xs ++ (x ∷ [])) ≡ true
distinct_snoc [] x f d = refl
distinct_snoc (y ∷ ys) x f d =
    let m = member_append y ys (x ∷ []) in
    let h = distinct_snoc ys x in grind (arith, nat_tests)

pub chain_snoc : (R : ℕ → ℕ → Bool) (xs : List ℕ) (x : ℕ) → Chain R xs → ((y : ℕ) → member y xs ≡ true → R y x ≡ true)
    → Chain R (xs ++ (x ∷ []))
chain_snoc R [] x c h = (λ y e. no (cc), tt)
chain_snoc R (y ∷ ys) x c h = (
  λ z e. let m = member_append z ys (x ∷ []) in
      let o = c.0 z in
      let i = h y (first_in y ys) in grind (arith, nat_tests),
  chain_snoc R ys x c.1 (λ z e. h z (or_right (eqb z y) e)),
)

-- what stands in a list is one of its members
pub member_at : (xs : List ℕ) (j : ℕ) → j < length xs → member (get_or xs j 0) xs ≡ true
member_at [] j l = absurd (not-suc-le-zero l)
member_at (x ∷ xs) zero l = first_in x xs
member_at (x ∷ xs) (suc j) l = or_right (eqb (get_or xs j 0) x) (member_at xs j (le_of_suc-le-suc l))

pub chain_at : (R : ℕ → ℕ → Bool) (xs : List ℕ) → Chain R xs → (i j : ℕ) → i < j → j < length xs
    → R (get_or xs i 0) (get_or xs j 0) ≡ true
chain_at R [] c i j l u = absurd (not-suc-le-zero u)
chain_at R (x ∷ xs) c i zero l u = absurd (not-suc-le-zero l)
chain_at R (x ∷ xs) c zero (suc j) l u = c.0 (get_or xs j 0) (member_at xs j (le_of_suc-le-suc u))
chain_at R (x ∷ xs) c (suc i) (suc j) l u = chain_at R xs c.1 i j (le_of_suc-le-suc l) (le_of_suc-le-suc u)

pub chain_map : (R S : ℕ → ℕ → Bool) (xs : List ℕ)
    → ((x y : ℕ) → member x xs ≡ true → member y xs ≡ true → R x y ≡ true → S x y ≡ true) → Chain R xs → Chain S xs
chain_map R S [] h c = tt
chain_map R S (x ∷ xs) h c = (
  λ y e. h x y (first_in x xs) (or_right (eqb y x) e) (c.0 y e),
  chain_map R S xs
      (λ y z e f. h y z (or_right (eqb y x) e) (or_right (eqb z x) f)) c.1,
)
