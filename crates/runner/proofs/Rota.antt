-- Turning a list over and over: whole rounds, and what stands at each turn.
-- Assumes nothing.
use mathlib.Core.Path.{◌≡◌, refl, sym, ap, ◌∙◌}
use mathlib.Core.List.{List, [], ◌∷◌, ◌++◌, append_assoc, append-nil}
use Prim.Native.Nat.{ℕ, zero, suc, ◌+◌, ◌-◌, ◌%◌, ◌≤◌, ◌<◌}
use native.Mathlib.Omega.{arith}
use native.Mathlib.Nat.{not-suc-le-zero, le_of_suc-le-suc, suc-add, zero-add, mod-eq_of_lt, add-mod_left}
use lib.ListN.{length, get_or, length-append, get_or-append}
use lib.Seq.{get_or-append-add}
use lib.Dec.{ltb}
use borrow.Author.Tests.{ltb-true, ltb-false}
use Rattle.role.proofs.Logic.{test}
use Rattle.runner.proofs.Queue.{rota}

-- a whole round
rota_part : (xs ys : List ℕ) (t : ℕ) → rota (length xs + t) (xs ++ ys) ≡ (xs ++ rota t (ys ++ xs))
rota_part [] ys t = rw (zero-add t, append-nil ys) refl
rota_part (x ∷ xs) ys t = rw (suc-add (length xs) t, append_assoc xs ys (x ∷ []))
    (ap (λ (r : List ℕ). x ∷ r) (rota_part xs (ys ++ (x ∷ [])) t ∙ rw (append_assoc ys (x ∷ []) xs) refl))

pub rota_round : (q : List ℕ) (t : ℕ) → rota (length q + t) q ≡ (q ++ rota t q)
rota_round q t = ap (λ (r : List ℕ). rota (length q + t) r) (sym (append-nil q)) ∙ rota_part q [] t

pub rota_length : (t x : ℕ) (xs : List ℕ) → length (rota t (x ∷ xs)) ≡ t
rota_length zero x xs = refl
rota_length (suc t) x [] = ap suc (rota_length t x [])
rota_length (suc t) x (y ∷ ys) = ap suc (rota_length t y (ys ++ (x ∷ [])))

-- the first round
rota_start : (t x : ℕ) (xs : List ℕ) (k : ℕ) → k < t → k < suc (length xs)
    → get_or (rota t (x ∷ xs)) k 0 ≡ get_or (x ∷ xs) k 0
rota_start zero x xs k h l = absurd (not-suc-le-zero h)
rota_start (suc t) x xs zero h l = refl
rota_start (suc t) x [] (suc k) h l = absurd (not-suc-le-zero (le_of_suc-le-suc l))
rota_start (suc t) x (y ∷ ys) (suc k) h l = rota_start t y (ys ++ (x ∷ [])) k (le_of_suc-le-suc h)
    (rw length-append (omega arith)) ∙ get_or-append (y ∷ ys) (x ∷ []) 0 k (le_of_suc-le-suc l)

-- Turn k is that of the one at k mod n; f bounds the rounds.
pub rota_mod : (f t x : ℕ) (xs : List ℕ) (k : ℕ) → k < t → k ≤ f
    → get_or (rota t (x ∷ xs)) k 0 ≡ get_or (x ∷ xs) (k % suc (length xs)) 0
rota_mod zero t x xs k h l = let z : k ≡ 0 = omega arith in
    rw (mod-eq_of_lt {n = k} {m = suc (length xs)} (omega arith)) (rota_start t x xs k h (omega arith))
rota_mod (suc f) t x xs k h l = test (ltb k (suc (length xs)))
    (λ s. let u = ltb-true k (suc (length xs)) s in
    rw (mod-eq_of_lt {n = k} {m = suc (length xs)} u) (rota_start t x xs k h u))
    (λ s. let u = ltb-false k (suc (length xs)) s in
    let a : k ≡ suc (length xs) + (k - suc (length xs)) = omega arith in
    let b : t ≡ suc (length xs) + (t - suc (length xs)) = omega arith in
    ap (λ (j : ℕ). get_or (rota j (x ∷ xs)) k 0) b
    ∙ ap (λ (r : List ℕ). get_or r k 0) (rota_round (x ∷ xs) (t - suc (length xs)))
    ∙ ap (λ (j : ℕ). get_or ((x ∷ xs) ++ rota (t - suc (length xs)) (x ∷ xs)) j 0) a
    ∙ get_or-append-add (x ∷ xs) (rota (t - suc (length xs)) (x ∷ xs)) (k - suc (length xs)) 0
    ∙ rota_mod f (t - suc (length xs)) x xs (k - suc (length xs)) (omega arith) (omega arith)
    ∙ ap (λ (j : ℕ). get_or (x ∷ xs) j 0) (sym (add-mod_left (suc (length xs)) (k - suc (length xs))) ∙ ap
    (λ (j : ℕ). j % suc (length xs)) (sym a)))
