-- A list of parties seen place by place: what a store, `each`, `some`, `total` and `first_from` do at each place.
-- Assumes nothing.
use mathlib.Core.Path.{◌≡◌, refl, sym, ap, ◌∙◌, fun_ext}
use mathlib.Core.Bool.{Bool, true, false, cond, ◌||◌}
use mathlib.Core.List.{List, [], ◌∷◌}
use Rattle.std.specs.Prelude.{Some, None}
use Prim.Native.Nat.{ℕ, zero, suc, ◌+◌, ◌≤◌, ◌<◌}
use native.Mathlib.Omega.{arith}
use native.Mathlib.Nat.{not-suc-le-zero, le_of_suc-le-suc}
use lib.ListN.{length, set}
use lib.Seq.{get_or-set_same, get_or-set_other}
use lib.Dec.{ltb, eqb}
use borrow.Author.Tests.{eqb-true, eqb-false, ltb-true, ltb-false}
use Rattle.party.specs.Parts.{idle}
use Rattle.role.proofs.Logic.{no, test, or_right}
use Rattle.parties.specs.Types.{Place, Party}
use Rattle.parties.specs.Places.{place, at, some, each, total, first_from}

-- one place changed
abbrev pub upd : (ℕ → Party) → ℕ → Party → ℕ → Party
upd v i q j = cond (eqb j i) q (v j)

pub at_set : (ps : List Party) (i : ℕ) (q : Party) → i < length ps → at (set ps i q) ≡ upd (at ps) i q
at_set ps i q h = fun_ext (λ j. test (eqb j i)
    (λ e. rw (e, eqb-true j i e) (get_or-set_same ps i q idle h))
    (λ e. rw e (get_or-set_other ps i j q idle (eqb-false j i e))))

-- every place without a party holds the idle party
abbrev pub Tail : ℕ → List Party → Type 0
Tail n ps = (j : ℕ) → n ≤ j → at ps j ≡ idle

-- each
pub length_each : (n : ℕ) (f : Party → Party) (ps : List Party) → length (each n f ps) ≡ length ps
length_each (suc n) f (p ∷ ps) = ap suc (length_each n f ps)
length_each n f ps = refl

pub each_below : (n : ℕ) (f : Party → Party) (ps : List Party) (j : ℕ) → j < n → n ≤ length ps
    → at (each n f ps) j ≡ f (at ps j)
each_below zero f ps j h l = absurd (not-suc-le-zero h)
each_below (suc n) f [] j h l = absurd (not-suc-le-zero l)
each_below (suc n) f (p ∷ ps) zero h l = refl
each_below (suc n) f (p ∷ ps) (suc j) h l = each_below n f ps j (le_of_suc-le-suc h) (le_of_suc-le-suc l)

pub each_past : (n : ℕ) (f : Party → Party) (ps : List Party) (j : ℕ) → n ≤ j → at (each n f ps) j ≡ at ps j
each_past (suc n) f (p ∷ ps) zero h = absurd (not-suc-le-zero h)
each_past (suc n) f (p ∷ ps) (suc j) h = each_past n f ps j (le_of_suc-le-suc h)
each_past n f ps j h = refl

pub at_each : (n : ℕ) (f : Party → Party) (ps : List Party) → n ≤ length ps
    → at (each n f ps) ≡ (λ j. cond (ltb j n) (f (at ps j)) (at ps j))
at_each n f ps l = fun_ext (λ j. test (ltb j n) (λ e. rw e (each_below n f ps j (ltb-true j n e) l))
    (λ e. rw e (each_past n f ps j (ltb-false j n e))))

-- a change that leaves the idle party as it is reaches every place
pub at_each_all : (n : ℕ) (f : Party → Party) (ps : List Party) → f idle ≡ idle → n ≤ length ps → Tail n ps
    → at (each n f ps) ≡ (λ j. f (at ps j))
at_each_all n f ps k l tail = fun_ext (λ j. test (ltb j n) (λ e. each_below n f ps j (ltb-true j n e) l)
    (λ e. let z = tail j (ltb-false j n e) in each_past n f ps j (ltb-false j n e) ∙ z ∙ sym k ∙ ap f (sym z)))

-- a change of parties that it leaves as they are
pub each_still : (n : ℕ) (f : Party → Party) (ps : List Party) → ((j : ℕ) → f (at ps j) ≡ at ps j) → each n f ps ≡ ps
each_still (suc n) f (p ∷ ps) h = rw (h 0, each_still n f ps (λ j. h (suc j))) refl
each_still n f ps h = refl

-- one change after another, in two passes or in one
pub each_each : (n : ℕ) (f g : Party → Party) (ps : List Party) → each n (λ p. f (g p)) ps ≡ each n f (each n g ps)
each_each (suc n) f g (p ∷ ps) = ap (◌∷◌ (f (g p))) (each_each n f g ps)
each_each n f g ps = refl

-- a part of the parties that a store, or a change of every party, leaves wherever it leaves it of one
module _ {A : Type 0} (part : Party → A) where
  pub set_part : (ps : List Party) (i : ℕ) (q : Party) → part q ≡ part (at ps i) → (j : ℕ)
      → part (at (set ps i q) j) ≡ part (at ps j)
  set_part (p ∷ ps) zero q e zero = e
  set_part (p ∷ ps) (suc i) q e (suc j) = set_part ps i q e j
  set_part ps i q e j = refl

  pub each_part : (n : ℕ) (f : Party → Party) (ps : List Party) → ((p : Party) → part (f p) ≡ part p) → (j : ℕ)
      → part (at (each n f ps) j) ≡ part (at ps j)
  each_part (suc n) f (p ∷ ps) h zero = h p
  each_part (suc n) f (p ∷ ps) h (suc j) = each_part n f ps h j
  each_part n f ps h j = refl

-- some
pub some_at : (n : ℕ) (f : Party → Bool) (ps : List Party) → f idle ≡ false → (j : ℕ) → j < n → f (at ps j) ≡ true
    → some n f ps ≡ true
some_at zero f ps h j l e = absurd (not-suc-le-zero l)
some_at (suc n) f [] h j l e = sym h ∙ e
some_at (suc n) f (p ∷ ps) h zero l e = rw e
some_at (suc n) f (p ∷ ps) h (suc j) l e = or_right (f p) (some_at n f ps h j (le_of_suc-le-suc l) e)

-- where only the first n places have parties, any place will do
module _ (n : ℕ) (f : Party → Bool) (ps : List Party) (h : f idle ≡ false) (tail : Tail n ps) where
  pub some_seen : (j : ℕ) → f (at ps j) ≡ true → some n f ps ≡ true
  some_seen j e = test (ltb j n) (λ l. some_at n f ps h j (ltb-true j n l) e)
      (λ l. let z = ap f (tail j (ltb-false j n l)) in no (cc))

  pub some_none : some n f ps ≡ false → (j : ℕ) → f (at ps j) ≡ false
  some_none e j = test (f (at ps j)) (λ q. let z = some_seen j q in no (cc)) (λ q. q)

pub some_true : (n : ℕ) (f : Party → Bool) (ps : List Party) → some n f ps ≡ true → (j : ℕ) × (f (at ps j) ≡ true)
some_true (suc n) f (p ∷ ps) e = go (f p) refl (some_true n f ps) e
  where
    go : (x : Bool) → f p ≡ x → (some n f ps ≡ true → (j : ℕ) × (f (at ps j) ≡ true)) → (x || some n f ps) ≡ true
        → (j : ℕ) × (f (at (p ∷ ps) j) ≡ true)
    go true q r h = (0, q)
    go false q r h = let s = r h in (suc s.0, s.1)
some_true n f ps e = no (cc)

pub some_set : (n : ℕ) (f : Party → Bool) (ps : List Party) (i : ℕ) (q : Party) → f q ≡ f (at ps i)
    → some n f (set ps i q) ≡ some n f ps
some_set (suc n) f (p ∷ ps) zero q e = rw e
some_set (suc n) f (p ∷ ps) (suc i) q e = ap (λ (x : Bool). f p || x) (some_set n f ps i q e)
some_set n f ps i q e = refl

pub some_each : (n : ℕ) (f : Party → Bool) (g : Party → Party) (ps : List Party) → ((p : Party) → f (g p) ≡ f p)
    → some n f (each n g ps) ≡ some n f ps
some_each (suc n) f g (p ∷ ps) h = rw h (ap (λ (x : Bool). f p || x) (some_each n f g ps h))
some_each n f g ps h = refl

-- total
pub total_set : (n : ℕ) (f : Party → ℕ) (ps : List Party) (i : ℕ) (q : Party) → i < n → i < length ps
    → total n f (set ps i q) + f (at ps i) ≡ total n f ps + f q
total_set zero f ps i q l h = absurd (not-suc-le-zero l)
total_set (suc n) f [] i q l h = absurd (not-suc-le-zero h)
total_set (suc n) f (p ∷ ps) zero q l h = omega arith
total_set (suc n) f (p ∷ ps) (suc i) q l h = let r = total_set n f ps i q (le_of_suc-le-suc l) (le_of_suc-le-suc h) in
    omega arith

pub total_each : (n : ℕ) (f : Party → ℕ) (g : Party → Party) (ps : List Party) → ((p : Party) → f (g p) ≡ f p)
    → total n f (each n g ps) ≡ total n f ps
total_each (suc n) f g (p ∷ ps) h = rw h (ap (λ (x : ℕ). f p + x) (total_each n f g ps h))
total_each n f g ps h = refl

-- two ways to count the same of each party
pub total_split : (n : ℕ) (f h : Party → ℕ) (g : Party → Party) (ps : List Party) → ((p : Party) → f (g p) + h p ≡ f p)
    → total n f (each n g ps) + total n h ps ≡ total n f ps
total_split (suc n) f h g (p ∷ ps) k = let r = total_split n f h g ps k in let e = k p in omega arith
total_split n f h g ps k = refl

pub total_zero : (n : ℕ) (f : Party → ℕ) (ps : List Party) → ((j : ℕ) → f (at ps j) ≡ 0) → total n f ps ≡ 0
total_zero (suc n) f (p ∷ ps) h = let r = total_zero n f ps (λ j. h (suc j)) in let z = h 0 in omega arith
total_zero n f ps h = refl

-- first_from
pub first_found : (i n : ℕ) (f : Party → Bool) (ps : List Party) (p : Place) → first_from i n f ps ≡ Some p
    → (d : ℕ) × ((p.0 ≡ i + d) × (f (at ps d) ≡ true))
first_found i (suc n) f (x ∷ ps) p e = go (f x) refl e (first_found (suc i) n f ps p)
  where
    go : (t : Bool) → f x ≡ t → cond t (Some (place i)) (first_from (suc i) n f ps) ≡ Some p
        → (first_from (suc i) n f ps ≡ Some p → (d : ℕ) × ((p.0 ≡ suc i + d) × (f (at ps d) ≡ true)))
        → (d : ℕ) × ((p.0 ≡ i + d) × (f (at (x ∷ ps) d) ≡ true))
    go true h e r = let z : place i ≡ p = cc in let y = ap (λ (q : Place). q.0) z in (0, (omega arith, h))
    go false h e r = let s = r e in let y = s.1.0 in (suc s.0, (omega arith, s.1.1))
first_found i n f ps p e = no (cc)

pub first_none : (i n : ℕ) (f : Party → Bool) (ps : List Party) → f idle ≡ false → first_from i n f ps ≡ None
    → (d : ℕ) → d < n → f (at ps d) ≡ false
first_none i zero f ps h e d l = absurd (not-suc-le-zero l)
first_none i (suc n) f [] h e d l = h
first_none i (suc n) f (x ∷ ps) h e d l = go (f x) refl e d l (first_none (suc i) n f ps h)
  where
    go : (t : Bool) → f x ≡ t → cond t (Some (place i)) (first_from (suc i) n f ps) ≡ None → (d : ℕ) → d < suc n
        → (first_from (suc i) n f ps ≡ None → (d : ℕ) → d < n → f (at ps d) ≡ false) → f (at (x ∷ ps) d) ≡ false
    go true k e d l r = no (cc)
    go false k e zero l r = k
    go false k e (suc d) l r = r e d (le_of_suc-le-suc l)
