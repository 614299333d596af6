-- A turn over a script: the record at a place is the first of those from there on, and the rest are those after it.
-- Assumes nothing.
use mathlib.Core.Path.{◌≡◌, refl, sym, ap, ◌∙◌}
use mathlib.Core.Bool.{Bool, true, false, cond, ◌&&◌}
use mathlib.Core.List.{List, [], ◌∷◌}
use Prim.Native.Nat.{ℕ, suc, ◌+◌, ◌-◌, ◌/◌, ◌<◌, ◌≤◌}
use native.Mathlib.Nat.{add-suc}
use native.Mathlib.Numerals.{add-one}
use native.Mathlib.Omega.{arith}
use lib.Dec.{ltb, eqb, lit≤}
use lib.ListN.{length, drop, get_or, length-drop, drop_of_length-le}
use lib.Seq.{drop-cons, drop-length}
use borrow.Author.Tests.{ltb-true, ltb-false}
use Rattle.std.specs.Prelude.{Option, Some, None, Ok, Err, MatchOption}
use Rattle.reader.specs.declared.Record.{Record}
use Rattle.reader.specs.Record.{Entry, good, bad, record_at, after_of, after_at, records}

pub no : {A : Type 0} → ◌≡◌ {A = ℕ} 0 1 → A
no e = absurd (omega arith)

-- fewer than 6 bytes are one bad record
short : (l : List ℕ) → 0 < length l → length l < 6 → records l ≡ bad ∷ []
unfolding records
short [] h k = absurd (omega arith)
short (a ∷ []) h k = refl
short (a ∷ b ∷ []) h k = refl
short (a ∷ b ∷ c ∷ []) h k = refl
short (a ∷ b ∷ c ∷ d ∷ []) h k = refl
short (a ∷ b ∷ c ∷ d ∷ e ∷ []) h k = refl
short (a ∷ b ∷ c ∷ d ∷ e ∷ f ∷ l) h k = absurd (omega arith)

-- a record is six bytes, and the last may be fewer
pub records_length : (l : List ℕ) → length (records l) ≤ (length l + 5) / 6
unfolding records
records_length [] = lit≤ tt
records_length (a ∷ []) = lit≤ tt
records_length (a ∷ b ∷ []) = lit≤ tt
records_length (a ∷ b ∷ c ∷ []) = lit≤ tt
records_length (a ∷ b ∷ c ∷ d ∷ []) = lit≤ tt
records_length (a ∷ b ∷ c ∷ d ∷ e ∷ []) = lit≤ tt
records_length (a ∷ b ∷ op ∷ party ∷ value ∷ extra ∷ rest) =
    one_more (eqb a 0x47 && eqb b 0x42) (good op party value extra) (records rest) (length rest) (records_length rest)
  where
    one_more : (t : Bool) (r : Entry) (rs : List Entry) (n : ℕ) → length rs ≤ (n + 5) / 6
        → length (cond t (r ∷ rs) (bad ∷ [])) ≤ (suc (suc (suc (suc (suc (suc n))))) + 5) / 6
    one_more true r rs n h = omega arith
    one_more false r rs n h = omega arith

one : (s : List ℕ) (at k : ℕ) → at + k < length s → drop (at + k) s ≡ get_or s (at + k) 0 ∷ drop (at + suc k) s
one s at k h = drop-cons s (at + k) 0 h ∙ ap (λ (m : ℕ). get_or s (at + k) 0 ∷ drop m s) (sym (add-suc at k))

six : (s : List ℕ) (at : ℕ) → at + 6 ≤ length s
    → drop at s ≡ get_or s at 0 ∷ get_or s (at + 1) 0 ∷ get_or s (at + 2) 0 ∷ get_or s (at + 3) 0 ∷ get_or s (at + 4) 0
    ∷ get_or s
    (at + 5) 0 ∷ drop (at + 6) s
six s at h =
    drop-cons s at 0 (omega arith)
    ∙ ap (λ (m : ℕ). get_or s at 0 ∷ drop m s) (sym (add-one at))
    ∙ rw (
      one s at 1 (omega arith),
      one s at 2 (omega arith),
      one s at 3 (omega arith),
      one s at 4 (omega arith),
      one s
          at 5 (omega arith),
    )

by_length : (s : List ℕ) (at : ℕ) (r : Record) (p q : Bool) → ltb at (length s) ≡ p → ltb (length s - at) 6 ≡ q
    → record_at s at ≡ Some (Ok r) → at + 6 ≤ length s
unfolding record_at
by_length s at r false q f g e = no (cc)
by_length s at r true true f g e = no (cc)
by_length s at r true false f g e =
    let h : at < length s = ltb-true _ _ f in
    let k : 6 ≤ length s - at = ltb-false _ _ g in
    omega arith

-- a record is 6 bytes, and they are all there
pub all_there : (s : List ℕ) (at : ℕ) (r : Record) → record_at s at ≡ Some (Ok r) → at + 6 ≤ length s
all_there s at r e = by_length s at r _ _ refl refl e

-- the place after what stands at a place
pub record Moves (s : List ℕ) (at to : ℕ) : Type 0 where
  pub further : at < to
  pub within : to ≤ length s
  pub fewer : (length s - to + 5) / 6 + 1 ≤ (length s - at + 5) / 6

moves : (s : List ℕ) (at : ℕ) (o : Option Entry) → record_at s at ≡ o → at < length s
    → Moves s at (after_of o at (length s))
moves s at (Some (Ok r)) e h =
    let six_more : at + 6 ≤ length s = all_there s at r e in
    record { further = omega arith; within = six_more; fewer = omega arith }
moves s at (Some (Err b)) e h = record { further = h; within = omega arith; fewer = omega arith }
moves s at None e h = record { further = h; within = omega arith; fewer = omega arith }

-- before its end a reader moves on, and not past the end: what a caller of `take_at` goes by
pub moves_on : (s : List ℕ) (at : ℕ) → at < length s → Moves s at (after_at s at)
unfolding after_at
moves_on s at h = moves s at (record_at s at) refl h

-- what is handed out where l is left, and then l'
abbrev pub Gives : List Entry → List Entry → Option Entry → Type 0
Gives l l' o = MatchOption o ((l ≡ []) × (l' ≡ [])) (λ r. l ≡ r ∷ l')

abbrev Follows : List ℕ → ℕ → Option Entry → Type 0
Follows s at o = Gives (records (drop at s)) (records (drop (after_of o at (length s)) s)) o

pub record Turn (s : List ℕ) (at : ℕ) : Type 0 where
  pub gives : Gives (records (drop at s)) (records (drop (after_at s at) s)) (record_at s at)

bad_follows : (s : List ℕ) (at : ℕ) → records (drop at s) ≡ bad ∷ [] → Follows s at (Some bad)
unfolding records
bad_follows s at e = rw drop-length e

end_follows : (s : List ℕ) (at : ℕ) → length s ≤ at → Follows s at None
unfolding records
end_follows s at h = rw (drop_of_length-le s h, drop-length) (refl, refl)

by_cases : (s : List ℕ) (at : ℕ) → (o p q r : Bool) → ltb at (length s) ≡ o → ltb (length s - at) 6 ≡ p
    → eqb (get_or s at 0) 0x47 ≡ q → eqb (get_or s (at + 1) 0) 0x42 ≡ r → Follows s at (record_at s at)
unfolding record_at records
by_cases s at false p q r d e f g = rw d (end_follows s at (ltb-false _ _ d))
by_cases s at true true q r d e f g =
    let h : at < length s = ltb-true _ _ d in
    let k : length s - at < 6 = ltb-true _ _ e in
    rw (d, e) (bad_follows s at (short (drop at s) (rw length-drop (omega arith)) (rw length-drop k)))
by_cases s at true false true true d e f g =
    let h : at < length s = ltb-true _ _ d in
    let k : 6 ≤ length s - at = ltb-false _ _ e in
    rw (d, e, f, g) (ap records (six s at (omega arith)) ∙ simp (f, g))
by_cases s at true false true false d e f g =
    let h : at < length s = ltb-true _ _ d in
    let k : 6 ≤ length s - at = ltb-false _ _ e in
    rw (d, e, f, g) (bad_follows s at (ap records (six s at (omega arith)) ∙ simp (f, g)))
by_cases s at true false false r d e f g =
    let h : at < length s = ltb-true _ _ d in
    let k : 6 ≤ length s - at = ltb-false _ _ e in
    rw (d, e, f) (bad_follows s at (ap records (six s at (omega arith)) ∙ simp f))

pub turn : (s : List ℕ) (at : ℕ) → Turn s at
unfolding after_at
turn s at = record { gives = by_cases s at _ _ _ _ refl refl refl refl }
