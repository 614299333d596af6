-- A reader hands out the records of its script, and then the end.
-- Assumes nothing.
use mathlib.Core.Path.{◌≡◌, refl, sym, ap, ◌∙◌}
use mathlib.Core.List.{List, [], ◌∷◌, ◌++◌, map}
use Prim.Native.Nat.{ℕ, zero, suc, ◌+◌, ◌-◌, ◌<◌}
use native.Mathlib.Nat.{zero-add, suc-add}
use native.Mathlib.Omega.{arith}
use lib.ListN.{length, drop, replicate}
use Rattle.std.specs.Prelude.{Option, Some, None}
use Rattle.reader.specs.Record.{Entry, record_at, after_at, records}
use Rattle.reader.specs.Handing.{handed, until_end, HandsOut}
use Rattle.reader.proofs.Records.{no, Gives, turn}

gives_none : (l l' : List Entry) (o : Option Entry) → Gives l l' o → l ≡ [] → (o ≡ None) × (l' ≡ [])
gives_none l l' None g e = (refl, g.1)
gives_none l l' (Some r) g e = no (cc)

gives_some : (l l' : List Entry) (o : Option Entry) (r : Entry) (rs : List Entry) → Gives l l' o → l ≡ r ∷ rs
    → (o ≡ Some r) × (l' ≡ rs)
gives_some l l' None r rs g e = no (cc)
gives_some l l' (Some q) r rs g e = (cc, cc)

-- from a place on come the records that are left there, and then the end
comes : (rs : List Entry) (s : List ℕ) (at n : ℕ) → records (drop at s) ≡ rs
    → handed s at (length rs + n) ≡ map Some rs ++ replicate n None
unfolding handed
comes [] s at zero e = refl
comes [] s at (suc n) e =
    let g = gives_none _ _ (record_at s at) (turn s at).gives e in
    rw (zero-add, g.0) (ap (λ (l : List (Option Entry)). None ∷ l) (sym (ap (handed s (after_at s at)) (zero-add n))
    ∙ comes [] s (after_at s at) n g.1))
comes (r ∷ rs) s at n e =
    let g = gives_some _ _ (record_at s at) r rs (turn s at).gives e in
    rw (suc-add, g.0, comes rs s (after_at s at) n g.1)

all : (s : List ℕ) (n : ℕ) → handed s 0 (length (records s) + n) ≡ map Some (records s) ++ replicate n None
all s n = comes (records s) s 0 n refl

before_end : (rs : List Entry) (n : ℕ) → until_end (map Some rs ++ replicate (suc n) None) ≡ rs
unfolding until_end
before_end [] n = refl
before_end (r ∷ rs) n = ap (λ (l : List Entry). r ∷ l) (before_end rs n)

until : (s : List ℕ) (n : ℕ) → length (records s) < n → until_end (handed s 0 n) ≡ records s
until s n h =
    let k : ℕ = n - length (records s) - 1 in
    let e : n ≡ length (records s) + suc k = omega arith in
    ap (λ (m : ℕ). until_end (handed s 0 m)) e ∙ ap until_end (all s (suc k)) ∙ before_end (records s) k

pub hands_out : (s : List ℕ) → HandsOut s
hands_out s = record { until_the_end = until s; from_then_on = λ n. all s n }
