-- A build's addresses: how many they are, and two ways in which they make no bus.
-- Assumes nothing.
use mathlib.Core.Path.{◌≡◌, refl, ap₂}
use mathlib.Core.Bool.{Bool, true, false, ◌||◌}
use mathlib.Core.List.{List, [], ◌∷◌}
use Prim.Native.Nat.{ℕ, zero, suc, ◌+◌, ◌<◌, ◌≤◌}
use native.Mathlib.Omega.{arith}
use lib.ListN.{length, take, get_or}
use borrow.Author.Tests.{lt-ltb}
use Rattle.std.specs.List.{range_with_len}
use Rattle.std.proofs.lemmas.List.FromFn.{length-range_with_len}
use Rattle.party.specs.declared.Place.{Place}
use Rattle.addresses.proofs.Scans.{names_length}
use Rattle.effect.specs.declared.Refusal.TheVariants as ruling
use Rattle.bus.specs.Record.{build, refuse, no_parties}

further : (a x : ℕ) (l : List ℕ) (n : ℕ) → ((k : ℕ) → k < suc n → get_or (x ∷ l) k 0 ≡ a + k) → (k : ℕ) → k < n
    → get_or l k 0 ≡ a + 1 + k
further a x l n f k h = let e : get_or l k 0 ≡ a + suc k = f (suc k) (omega arith) in omega arith

-- n numbers from a on
pub first_of : (n a : ℕ) (l : List ℕ) → n ≤ length l → ((k : ℕ) → k < n → get_or l k 0 ≡ a + k)
    → take n l ≡ range_with_len a n
first_of zero a l h f = refl
first_of (suc n) a [] h f = absurd (omega arith)
first_of (suc n) a (x ∷ l) h f =
    let e : x ≡ a = omega (arith, f 0 (omega arith)) in
    ap₂ ◌∷◌ e (first_of n (a + 1) l (omega arith) (further a x l n f))

third : (p q y z : Bool) → (p || q || true || y || z) ≡ true
third true q y z = refl
third false true y z = refl
third false false y z = refl

second : (p x y z : Bool) → (p || true || x || y || z) ≡ true
second true x y z = refl
second false x y z = refl

pub too_many : (n a : ℕ) (s : Place) → 15 < n → build (range_with_len a n) s ≡ refuse ruling.BadBuild no_parties
too_many n a s h = simp (names_length (range_with_len a n) [], length-range_with_len a n, lt-ltb 15 n h, second)

pub too_high : (n a : ℕ) (s : Place) → 30 < a → build (range_with_len a n) s ≡ refuse ruling.BadBuild no_parties
too_high zero a s h = refl
too_high (suc n) a s h = simp (lt-ltb 30 a h, third)
