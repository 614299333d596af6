-- The law of the two loops: a turn writes one element more.
-- Assumes nothing.
use Prim.Native.Nat.{ℕ, ◌+◌, ◌<◌}
use mathlib.Core.Path.{◌≡◌, sym, ◌∙◌, subst}
use mathlib.Core.List.{List, map}
use native.Mathlib.Omega.{arith}
use lib.ListN.{length, get_or, set}
use lib.Seq.{paste}
use Rattle.std.proofs.lemmas.List.{get_or-map, length-map}
use Rattle.std.proofs.lemmas.List.Edits.{paste_more}

pub turn : {A B : Type 0} (f : A → B) (d : A) (xs : List A) (ys : List B) (k : ℕ) {out : List B} {q : B} → k < length xs
    → k < length ys → out ≡ paste ys 0 (map f xs) k → q ≡ f (get_or xs k d)
    → set out k q ≡ paste ys 0 (map f xs) (k + 1)
turn f d xs ys k {q = q} h l i e =
    let z : 0 + k ≡ k = omega arith in
    rw (i, e ∙ sym (get_or-map f xs k d q h)) (subst
    (λ (n : ℕ). set (paste ys 0 (map f xs) k) n (get_or (map f xs) k q) ≡ paste ys 0 (map f xs) (k + 1)) z
    (paste_more ys 0 (map f xs) k q (omega arith) (rw length-map h)))
