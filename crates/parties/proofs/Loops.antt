-- The laws of the loops over the places: one place more, and as many places as there are.
-- Assumes nothing.
use mathlib.Core.Path.{◌≡◌, refl, sym, ap, ◌∙◌}
use mathlib.Core.Bool.{Bool, cond, ◌||◌}
use mathlib.Core.List.{List, [], ◌∷◌, ◌++◌, map}
use Rattle.std.specs.Prelude.{Option, Some}
use Prim.Native.Nat.{ℕ, zero, suc, ◌+◌, ◌≤◌, ◌<◌}
use native.Mathlib.Omega.{arith}
use native.Mathlib.Numerals.{add-one}
use native.Mathlib.Nat.{not-suc-le-zero, le_of_suc-le-suc}
use lib.ListN.{length, set, take, drop, length-map, length-set}
use Rattle.std.proofs.lemmas.List.{length-take-le}
use lib.Dec.{ltb}
use borrow.Author.Tests.{ltb-false}
use Rattle.party.specs.Parts.{idle}
use Rattle.role.proofs.Logic.{test}
use Rattle.parties.specs.Types.{Place, Party}
use Rattle.parties.specs.Places.{place, at, some, each, total, first_from, talks, other_talker, within}
use Rattle.parties.proofs.Places.{each_past}

-- the length of an array whose elements are structs, as a need has it
pub length_of_map : (X Y : Type 0) (f : X → Y) (l : List X) (n : ℕ) → length (map f l) ≡ n → length l ≡ n
length_of_map X Y f l n h = sym (length-map l f) ∙ h

-- one place more
pub each_suc : (n : ℕ) (f : Party → Party) (ps : List Party) → n < length ps
    → set (each n f ps) n (f (at ps n)) ≡ each (suc n) f ps
each_suc n f [] h = absurd (not-suc-le-zero h)
each_suc zero f (p ∷ ps) h = refl
each_suc (suc n) f (p ∷ ps) h = ap (◌∷◌ (f p)) (each_suc n f ps (le_of_suc-le-suc h))

pub total_suc : (n : ℕ) (f : Party → ℕ) (ps : List Party) → n < length ps
    → total (suc n) f ps ≡ total n f ps + f (at ps n)
total_suc n f [] h = absurd (not-suc-le-zero h)
total_suc zero f (p ∷ ps) h = omega arith
total_suc (suc n) f (p ∷ ps) h = let r = total_suc n f ps (le_of_suc-le-suc h) in omega arith

-- past the end of the list nothing is added
pub some_all : (n : ℕ) (f : Party → Bool) (ps : List Party) → length ps ≤ n → some n f ps ≡ some (length ps) f ps
some_all zero f (p ∷ ps) h = absurd (not-suc-le-zero h)
some_all (suc n) f (p ∷ ps) h = ap (λ (x : Bool). f p || x) (some_all n f ps (le_of_suc-le-suc h))
some_all n f ps h = refl

pub each_all : (n : ℕ) (f : Party → Party) (ps : List Party) → length ps ≤ n → each n f ps ≡ each (length ps) f ps
each_all zero f (p ∷ ps) h = absurd (not-suc-le-zero h)
each_all (suc n) f (p ∷ ps) h = ap (◌∷◌ (f p)) (each_all n f ps (le_of_suc-le-suc h))
each_all n f ps h = refl

pub total_all : (n : ℕ) (f : Party → ℕ) (ps : List Party) → length ps ≤ n → total n f ps ≡ total (length ps) f ps
total_all zero f (p ∷ ps) h = absurd (not-suc-le-zero h)
total_all (suc n) f (p ∷ ps) h = ap (λ (x : ℕ). f p + x) (total_all n f ps (le_of_suc-le-suc h))
total_all n f ps h = refl

pub first_all : (i n : ℕ) (f : Party → Bool) (ps : List Party) → length ps ≤ n
    → first_from i n f ps ≡ first_from i (length ps) f ps
first_all i zero f (p ∷ ps) h = absurd (not-suc-le-zero h)
first_all i (suc n) f (p ∷ ps) h = ap (λ (x : Option Place). cond (f p) (Some (place i)) x)
    (first_all (suc i) n f ps (le_of_suc-le-suc h))
first_all i n f ps h = refl

-- Of fifteen places, within n is as good as n: for any A that n places give.
pub within_same : {A : Type 0} (g : ℕ → A) (n : ℕ) → (15 ≤ n → g n ≡ g 15) → g (within n) ≡ g n
within_same g n h = test (ltb n 15) (λ e. rw e refl) (λ e. rw e (sym (h (ltb-false n 15 e))))

-- a figure of all places, for lists of fifteen
pub all_15 : {A : Type 0} (g : ℕ → A) (n : ℕ) (ps : List Party) → length ps ≡ 15 → (length ps ≤ n → g n ≡ g (length ps))
    → 15 ≤ n → g n ≡ g 15
all_15 g n ps z f h = f (omega arith) ∙ ap g z

-- the search for a talker other than party i
pub other_all : (i n : ℕ) (ps : List Party) → length ps ≡ 15 → 15 ≤ n → other_talker n i ps ≡ other_talker 15 i ps
other_all i n ps z h = all_15 (λ k. other_talker k i ps) n (set ps i idle) (length-set ps i idle ∙ z)
    (first_all 0 n talks (set ps i idle)) h

-- The two laws of every loop here. After k turns the loop has g k; a turn takes r to s r; at the end k is the number of
-- places with parties.
pub turn : {A : Type 0} (g : ℕ → A) (s : A → A) (k : ℕ) {r q : A} → g (suc k) ≡ s (g k) → r ≡ g k → q ≡ s r
    → q ≡ g (k + 1)
turn g s k e i j = rw add-one (j ∙ ap s i ∙ sym e)

pub done : {A : Type 0} (g : ℕ → A) (count n k : ℕ) {r : A} → (15 ≤ count → g count ≡ g 15) → n ≡ within count → k ≤ n
    → n ≤ k → r ≡ g k → r ≡ g count
done g count n k h w l m e = let z : k ≡ n = omega arith in e ∙ ap g (z ∙ w) ∙ within_same g count h

-- of the change of every party
pub each_turn : (k : ℕ) (f : Party → Party) (ps : List Party) → k < length ps
    → each (suc k) f ps ≡ set (each k f ps) k (f (at (each k f ps) k))
each_turn k f ps h = sym (each_suc k f ps h) ∙ ap (λ (p : Party). set (each k f ps) k (f p)) (sym
    (each_past k f ps k (omega arith)))

-- the first n places are changed, and the others stay
pub each_front : (n : ℕ) (f : Party → Party) (ps : List Party) → each n f (take n ps) ++ drop n ps ≡ each n f ps
each_front (suc n) f (p ∷ ps) = ap (◌∷◌ (f p)) (each_front n f ps)
each_front n f ps = refl

-- the loop over the places with parties changes them all
pub all_changed : (count n k : ℕ) (f : Party → Party) (ps : List Party) {items : List Party} → length ps ≡ 15
    → (n ≡ within count) × (n ≤ 15) → k ≤ length (take n ps) → length (take n ps) ≤ k → items ≡ each k f (take n ps)
    → items ++ drop n ps ≡ each count f ps
all_changed count n k f ps z w l m e =
    let t : length (take n ps) ≡ n = length-take-le n ps (omega arith) in
    let q : k ≡ n = omega arith in
    ap (λ (l : List Party). l ++ drop n ps) (e ∙ ap (λ (i : ℕ). each i f (take n ps)) q) ∙ each_front n f ps
    ∙ ap (λ (i : ℕ). each i f ps) w.0 ∙ within_same (λ i. each i f ps) count (all_15 (λ i. each i f ps) count ps z
    (each_all count f ps))
