-- The rule of a table: a list that antt computes to be f at each place is f of the place at each place.
-- Assumes nothing.
use mathlib.Core.Path.{◌≡◌, refl, ap, sym, ◌∙◌}
use mathlib.Core.List.{List, [], ◌∷◌}
use Prim.Native.Nat.{ℕ, zero, suc, ◌+◌, ◌%◌, ◌<◌}
use native.Mathlib.Nat.{add-zero, zero-add, add-suc, suc-add, le_of_suc-le-suc, not-suc-le-zero}
use lib.ListN.{get_or}
use Rattle.message.specs.declared.Meaning.{Meaning}
use Rattle.message.specs.Meaning.{named, seven_bits, meaning_of, code_of, decode}

-- f at i, i + 1, .., n of them
abbrev pub tabulate : {A : Type 0} → (ℕ → A) → ℕ → ℕ → List A
tabulate f i zero = []
tabulate f i (suc n) = f i ∷ tabulate f (suc i) n

from : {A : Type 0} (f : ℕ → A) (d : A) (n i k : ℕ) → k < n → get_or (tabulate f i n) k d ≡ f (i + k)
from f d zero i k h = absurd (not-suc-le-zero h)
from f d (suc n) i zero h = ap f (sym (add-zero i))
from f d (suc n) i (suc k) h = from f d n (suc i) k (le_of_suc-le-suc h) ∙ ap f (suc-add i k ∙ sym (add-suc i k))

-- one equation of lists, computed, is an equation at each place
pub at : {A : Type 0} (f : ℕ → A) (d : A) (l : List A) (n : ℕ) → l ≡ tabulate f 0 n → (k : ℕ) → k < n
    → get_or l k d ≡ f k
at {A = A} f d l n e k h = ap (λ (t : List A). get_or t k d) e ∙ from f d n 0 k h ∙ ap f (zero-add k)

-- what the table says of a byte, decoded with the byte's low five bits, is the byte's meaning
decoded : ℕ → Meaning
decoded b = decode (code_of (meaning_of b)) (b % 32)

pub meant : (b : ℕ) → b < 256 → decode (code_of (meaning_of b)) (b % 32) ≡ meaning_of b
unfolding decoded decode meaning_of seven_bits named
meant b h = sym (from decoded (meaning_of 0) 256 0 b h ∙ ap decoded (zero-add b))
    ∙ at meaning_of (meaning_of 0) (tabulate decoded 0 256) 256 refl b h
