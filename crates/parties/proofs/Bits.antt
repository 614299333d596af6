-- The laws of masks: what their bits are, how many they are, how the code makes them, and that they tell what the lists
-- of parties tell.
-- Assumes nothing.
use mathlib.Core.Path.{◌≡◌, refl, sym, ap, ◌∙◌}
use mathlib.Core.Bool.{Bool, true, false, not, cond, ◌&&◌, ◌||◌}
use mathlib.Core.List.{List, [], ◌∷◌}
use Rattle.std.specs.Prelude.{Some, None}
use Prim.Native.Nat.{ℕ, zero, suc, ◌+◌, ◌-◌, ◌*◌, ◌/◌, ◌%◌, ◌^◌, ◌≤◌, ◌<◌}
use native.Mathlib.Omega.{arith}
use native.Mathlib.Numerals.{one-add}
use native.Mathlib.Nat.{not-suc-le-zero, le_of_suc-le-suc, zero-lt-suc, zero-add, add-zero, add-suc, suc-add, pow-suc}
use native.Mathlib.Nat.{zero-div, div-one, div-eq_of_lt}
use lib.ListN.{length}
use lib.Dec.{ltb, eqb, lit<}
use lib.Pow.{pow_mono, shr-shr, shl_exact}
use lib.Bits.{bit_or, or_shifted}
use mir.Val.{bool_byte}
use lib.Count.{ones, ones_step, count_trailing_zeros, under}
use borrow.Author.Tests.{ltb-false, ltb-true, lt-ltb, le-ltb, eqb-true, eqb-false, eq-eqb, ne_eqb}
use Rattle.party.specs.Parts.{one}
use Rattle.role.proofs.Logic.{test}
use Rattle.parties.specs.Types.{Party}
use Rattle.parties.specs.Places.{place, at, some, first_from}
use Rattle.parties.specs.Lines.{bits, mask, count_from, has_driver}
use Rattle.parties.specs.Sweeping.{pushed, without, first_of}

one_le : (b : Bool) → one b ≤ 1
one_le true = omega arith
one_le false = omega arith

-- the lowest bit, and the rest
lowest : (b : Bool) (m : ℕ) → (one b + 2 * m) % 2 ≡ one b
lowest true m = omega arith
lowest false m = omega arith

rest : (b : Bool) (m : ℕ) → (one b + 2 * m) / 2 ≡ m
rest true m = omega arith
rest false m = omega arith

-- a mask of d places has no bit past them
pub bits_lt : (i d : ℕ) (f : ℕ → Bool) → bits i d f < 2 ^ d
bits_lt i zero f = zero-lt-suc 0
bits_lt i (suc d) f = let h = bits_lt (suc i) d f in let l = one_le (f i) in rw (pow-suc 2 d) (omega arith)

-- The count of ones is the number of parties.
pub ones_bits : (i d : ℕ) (f : ℕ → Bool) → ones (bits i d f) ≡ count_from i d f
unfolding ones
ones_bits i zero f = refl
ones_bits i (suc d) f = ones_step (one (f i) + 2 * bits (suc i) d f)
    ∙ rw (lowest (f i) (bits (suc i) d f), rest (f i) (bits (suc i) d f), ones_bits (suc i) d f) refl

-- both places one higher
ltb_suc : (k d : ℕ) → ltb (suc k) (suc d) ≡ ltb k d
ltb_suc k d = test (ltb k d) (λ e. let l = ltb-true k d e in lt-ltb (suc k) (suc d) (omega arith) ∙ sym e)
    (λ e. let l = ltb-false k d e in le-ltb (suc k) (suc d) (omega arith) ∙ sym e)

-- One bit a party: bit k is place i + k, and past d there is none.
pub bit_at : (i d k : ℕ) (f : ℕ → Bool) → bits i d f / 2 ^ k % 2 ≡ one (ltb k d && f (i + k))
bit_at i zero k f = rw (zero-div (2 ^ k), le-ltb k 0 (omega arith)) refl
bit_at i (suc d) zero f = rw (
  div-one (one (f i) + 2 * bits (suc i) d f),
  lowest (f i) (bits (suc i) d f),
  add-zero i,
  lt-ltb 0 (suc d) (omega arith),
) refl
bit_at i (suc d) (suc k) f = rw (ltb_suc k d) (
    ap (λ (x : ℕ). x % 2) (ap (λ (x : ℕ). (one (f i) + 2 * bits (suc i) d f) / 2 ^ x) (sym (one-add k)) ∙ sym
    (shr-shr (one (f i) + 2 * bits (suc i) d f) 1 k))
    ∙ ap (λ (x : ℕ). x / 2 ^ k % 2) (rest (f i) (bits (suc i) d f)) ∙ bit_at (suc i) d k f
    ∙ ap (λ (x : ℕ). one (ltb k d && f x)) (suc-add i k ∙ sym (add-suc i k)))

-- masks of tests that agree from i on
bits_ext : (i d : ℕ) (f g : ℕ → Bool) → ((j : ℕ) → i ≤ j → f j ≡ g j) → bits i d f ≡ bits i d g
bits_ext i zero f g h = refl
bits_ext i (suc d) f g h = rw (h i (omega arith), bits_ext (suc i) d f g (λ j l. h j (omega arith))) refl

-- A mask is that without the place i + k, and that place's bit.
twice : (b : Bool) (k : ℕ) → 2 * cond b (2 ^ k) 0 ≡ cond b (2 ^ suc k) 0
twice true k = rw (pow-suc 2 k) (omega arith)
twice false k = refl

apart : (i d k : ℕ) (f : ℕ → Bool) → bits i d f ≡ bits i d (λ j. not (eqb j (i + k)) && f j) + cond (ltb k d && f
    (i + k)) (2 ^ k) 0
apart i zero k f = rw (le-ltb k 0 (omega arith)) refl
apart i (suc d) zero f = rw (
  add-zero i,
  lt-ltb 0 (suc d) (omega arith),
  eq-eqb i i refl,
  bits_ext (suc i) d
      (λ j. not (eqb j i) && f j) f beyond,
) (own (f i))
  where
    beyond : (j : ℕ) → suc i ≤ j → (not (eqb j i) && f j) ≡ f j
    beyond j l = rw (ne_eqb j i (λ e. bad e)) refl
      where
        bad : j ≡ i → ⊥
        bad e = omega arith

    own : (b : Bool) → one b + 2 * bits (suc i) d f ≡ 0 + 2 * bits (suc i) d f + cond b 1 0
    own true = omega arith
    own false = omega arith
apart i (suc d) (suc k) f =
    let m : i + suc k ≡ suc i + k = add-suc i k ∙ sym (suc-add i k) in
    let r = apart (suc i) d k f in
    let t = twice (ltb k d && f (suc i + k)) k in
    rw (ne_eqb i (i + suc k) other, ltb_suc k d, m) (omega arith)
  where
    other : i ≡ i + suc k → ⊥
    other e = omega arith

-- A line is on where some party drives it.
doubled : (m : ℕ) → eqb (0 + 2 * m) 0 ≡ eqb m 0
doubled m = test (eqb m 0) (λ e. let z = eqb-true m 0 e in eq-eqb (0 + 2 * m) 0 (omega arith) ∙ sym e)
    (λ e. ne_eqb (0 + 2 * m) 0 (λ z. eqb-false m 0 e (omega arith)) ∙ sym e)

odd : (m : ℕ) → eqb (1 + 2 * m) 0 ≡ false
odd m = ne_eqb (1 + 2 * m) 0 (λ e. bad e)
  where
    bad : 1 + 2 * m ≡ 0 → ⊥
    bad e = omega arith

on_more : (b : Bool) (m : ℕ) → has_driver (one b + 2 * m) ≡ (b || has_driver m)
on_more true m = ap not (odd m)
on_more false m = ap not (doubled m)

some_bits : (i n : ℕ) (f : Party → Bool) (ps : List Party) (g : ℕ → Bool) → n ≤ length ps
    → ((j : ℕ) → j < n → g (i + j) ≡ f (at ps j)) → some n f ps ≡ has_driver (bits i n g)
some_bits i zero f ps g l h = refl
some_bits i (suc n) f [] g l h = absurd (not-suc-le-zero l)
some_bits i (suc n) f (p ∷ ps) g l h = ap (λ (x : Bool). f p || x)
    (some_bits (suc i) n f ps g (le_of_suc-le-suc l)
    (λ j m. ap g (suc-add i j ∙ sym (add-suc i j)) ∙ h (suc j) (omega arith)))
    ∙ ap (λ (x : Bool). x || has_driver (bits (suc i) n g)) (sym (ap g (sym (add-zero i)) ∙ h 0 (omega arith)))
    ∙ sym (on_more (g i) (bits (suc i) n g))

pub some_mask : (n : ℕ) (f : Party → Bool) (ps : List Party) → n ≤ length ps
    → some n f ps ≡ has_driver (mask n (λ i. f (at ps i)))
some_mask n f ps l = some_bits 0 n f ps (λ i. f (at ps i)) l (λ j _. ap (λ (k : ℕ). f (at ps k)) (zero-add j))

-- The first party is the lowest bit.
first_bits : (w i n : ℕ) (f : Party → Bool) (ps : List Party) (g : ℕ → Bool) → n ≤ w → n ≤ length ps
    → ((j : ℕ) → j < n → g (i + j) ≡ f (at ps j))
    → first_from i n f ps ≡ cond (eqb (bits i n g) 0) None (Some (place (i + count_trailing_zeros w (bits i n g))))
unfolding count_trailing_zeros
first_bits w i zero f ps g v l h = refl
first_bits w i (suc n) f [] g v l h = absurd (not-suc-le-zero l)
first_bits zero i (suc n) f (p ∷ ps) g v l h = absurd (not-suc-le-zero v)
first_bits (suc w) i (suc n) f (p ∷ ps) g v l h = rw
    (lowest (g i) (bits (suc i) n g), rest (g i) (bits (suc i) n g), sym (ap g (sym (add-zero i)) ∙ h 0 (omega arith)))
    (go (g i) (first_bits w (suc i) n f ps g (le_of_suc-le-suc v) (le_of_suc-le-suc l)
    (λ j m. ap g (suc-add i j ∙ sym (add-suc i j)) ∙ h (suc j) (omega arith))))
  where
    go : (b : Bool) → first_from (suc i) n f ps
        ≡ cond (eqb (bits (suc i) n g) 0) None (Some (place (suc i + count_trailing_zeros w (bits (suc i) n g))))
        → cond b (Some (place i)) (first_from (suc i) n f ps)
        ≡ cond (eqb (one b + 2 * bits (suc i) n g) 0) None
        (Some (place (i + under (one b) (count_trailing_zeros w (bits (suc i) n g)))))
    go true e = rw (odd (bits (suc i) n g), add-zero i) refl
    go false e = rw (
      doubled (bits (suc i) n g),
      add-suc i (count_trailing_zeros w (bits (suc i) n g)),
      sym
          (suc-add i (count_trailing_zeros w (bits (suc i) n g))),
    ) e

pub first_mask : (n : ℕ) (f : Party → Bool) (ps : List Party) (g : ℕ → Bool) → n ≤ 15 → n ≤ length ps
    → ((j : ℕ) → j < n → g j ≡ f (at ps j)) → first_from 0 n f ps ≡ first_of (mask n g)
first_mask n f ps g s l h = first_bits 16 0 n f ps g (omega arith) l (λ j m. ap g (zero-add j) ∙ h j m)
    ∙ ap (λ (x : ℕ). cond (eqb (mask n g) 0) None (Some (place x))) (zero-add (count_trailing_zeros 16 (mask n g)))

-- How the code makes a mask: from the last of n places down, each place pushed below those that it has.
pub down : (n k : ℕ) (f : ℕ → Bool) (m : ℕ) → k < n → n ≤ 15 → m ≡ bits (suc k) (n - suc k) f
    → pushed m (f k) ≡ bits k (n - k) f
down n k f m l s e =
    let b = bits_lt (suc k) (n - suc k) f in
    let w : 2 ^ (n - suc k) ≤ 2 ^ 14 = pow_mono {i = n - suc k} {j = 14} (omega arith) in
    let z : n - k ≡ suc (n - suc k) = omega arith in
    rw (z, e) (omega arith)

-- The laws of such a loop, before each turn of which the places from k on have been seen: at first none has; the place
-- below comes in; at last all have.
pub seen_none : (n k : ℕ) (f : ℕ → Bool) → k ≡ n → 0 ≡ bits k (n - k) f
seen_none n k f e = let z : n - k ≡ 0 = omega arith in rw z refl

pub seen_down : (n k : ℕ) (f : ℕ → Bool) {m : ℕ} → 0 < k → k ≤ n → n ≤ 15 → m ≡ bits k (n - k) f
    → pushed m (f (k - 1)) ≡ bits (k - 1) (n - (k - 1)) f
seen_down n k f {m = m} h l v e = let z : suc (k - 1) ≡ k = omega arith in
    down n (k - 1) f m (omega arith) v (e ∙ ap (λ (x : ℕ). bits x (n - x) f) (sym z))

pub seen_all : (n k : ℕ) (f : ℕ → Bool) → k ≤ 0 → bits k (n - k) f ≡ mask n f
seen_all n k f l = let z : n - k ≡ n = omega arith in let y : k ≡ 0 = omega arith in rw (z, y) refl

pub push_or : (m : ℕ) (b : Bool) → bit_or (m * 2 % 65536) (bool_byte b) ≡ pushed m b
push_or m b = let e : m * 2 % 65536 ≡ m % 32768 * 2 ^ 1 = omega arith in rw e (go b)
  where
    go : (b : Bool) → bit_or (m % 32768 * 2 ^ 1) (bool_byte b) ≡ m % 32768 * 2 ^ 1 + one b
    go true = or_shifted (m % 32768) 1 1 (lit< tt)
    go false = or_shifted (m % 32768) 1 0 (lit< tt)

-- The bit of a place, as the code shifts it.
pub shifted : (i : ℕ) → i < 15 → 1 * 2 ^ i % 65536 ≡ 2 ^ i
shifted i l = let e = shl_exact {a = 1} 1 i 16 (lit< tt) (omega arith) in omega arith

pub has_bit : (m i : ℕ) → m / 2 ^ i % 2 ≡ 1 → 2 ^ i ≤ m
has_bit m i e = test (ltb m (2 ^ i)) (λ l. let z = div-eq_of_lt (ltb-true m (2 ^ i) l) in omega arith)
    (λ l. ltb-false m (2 ^ i) l)

-- A mask without a place.
pub without_mask : (n k : ℕ) (f : ℕ → Bool) → n ≤ 15 → without (mask n f) k ≡ mask n (λ j. not (eqb j k) && f j)
without_mask n k f s = test (ltb k 15)
    (λ e. rw (e, bit_at 0 n k f, zero-add k) (taken (ltb k n && f k) (rw (zero-add k) at (apart 0 n k f))))
    (λ e. let l = ltb-false k 15 e in rw e (rw (zero-add k, le-ltb k n (omega arith)) at (apart 0 n k f) ∙ add-zero
    (mask n (λ j. not (eqb j k) && f j))))
  where
    taken : (b : Bool) → mask n f ≡ mask n (λ j. not (eqb j k) && f j) + cond b (2 ^ k) 0
        → cond (eqb (one b) 1) (mask n f - 2 ^ k) (mask n f) ≡ mask n (λ j. not (eqb j k) && f j)
    taken true h = omega arith
    taken false h = omega arith

-- The mask of nobody, of a test that may be switched off, and of one place.
pub bits_none : (i d : ℕ) (f : ℕ → Bool) → ((j : ℕ) → f j ≡ false) → bits i d f ≡ 0
bits_none i zero f h = refl
bits_none i (suc d) f h = rw (h i, bits_none (suc i) d f h) refl

pub mask_if : (n : ℕ) (f : ℕ → Bool) (on : Bool) → cond on (mask n f) 0 ≡ mask n (λ i. cond on (f i) false)
mask_if n f true = refl
mask_if n f false = sym (bits_none 0 n (λ i. false) (λ i. refl))

pub bit_alone : (n k : ℕ) → mask n (λ j. eqb j k) ≡ cond (ltb k n) (2 ^ k) 0
bit_alone n k = apart 0 n k (λ j. eqb j k) ∙ rw (
  zero-add k,
  eq-eqb k k refl,
  bits_none 0 n
      (λ j. not (eqb j k) && eqb j k) (λ j. never (eqb j k)),
) (simple (ltb k n))
  where
    never : (b : Bool) → (not b && b) ≡ false
    never true = refl
    never false = refl

    simple : (b : Bool) → 0 + cond (b && true) (2 ^ k) 0 ≡ cond b (2 ^ k) 0
    simple true = omega arith
    simple false = refl

-- Of at most one party, at most one counts.
none_counted : (i d : ℕ) (f : ℕ → Bool) → ((j : ℕ) → i ≤ j → f j ≡ false) → count_from i d f ≡ 0
none_counted i zero f h = refl
none_counted i (suc d) f h = rw (h i (omega arith), none_counted (suc i) d f (λ j l. h j (omega arith))) refl

pub one_counted : (i d : ℕ) (f : ℕ → Bool) → ((j k : ℕ) → f j ≡ true → f k ≡ true → j ≡ k) → count_from i d f ≤ 1
one_counted i zero f h = omega arith
one_counted i (suc d) f h = test (f i)
    (λ e. rw (e, none_counted (suc i) d f (λ j l. test (f j) (λ q. absurd (bad j l (h j i q e))) (λ q. q)))
    (omega arith))
    (λ e. let r = one_counted (suc i) d f h in rw e (omega arith))
  where
    bad : (j : ℕ) → suc i ≤ j → j ≡ i → ⊥
    bad j l e = omega arith
