-- Small steps of argument that the proofs share.
-- Assumes nothing.
use mathlib.Core.Path.{◌≡◌, refl}
use mathlib.Core.Bool.{Bool, true, false, cond, ◌&&◌, ◌||◌}
use Prim.Native.Nat.{ℕ}
use native.Mathlib.Omega.{arith}

-- from an absurd equation, anything
pub no {ℓ} : {A : Type ℓ} → ◌≡◌ {A = ℕ} 0 1 → A
no e = absurd (bad e)
  where
    bad : ◌≡◌ {A = ℕ} 0 1 → ⊥
    bad h = omega arith

-- a test, either way
pub test {ℓ} : {A : Type ℓ} (t : Bool) → (t ≡ true → A) → (t ≡ false → A) → A
test true f g = f refl
test false f g = g refl

pub cond-elim {ℓ} : {A : Type 0} (P : A → Type ℓ) (t : Bool) {x y : A} → (t ≡ true → P x) → (t ≡ false → P y)
    → P (cond t x y)
cond-elim P true f g = f refl
cond-elim P false f g = g refl

pub cond-elim₂ {ℓ} : {A : Type 0} (P : A → A → Type ℓ) (t : Bool) {x y x' y' : A} → (t ≡ true → P x x')
    → (t ≡ false → P y y') → P (cond t x y) (cond t x' y')
cond-elim₂ P true f g = f refl
cond-elim₂ P false f g = g refl

pub or_left : (x y : Bool) → x ≡ true → (x || y) ≡ true
or_left x y e = rw e

pub or_right : (x : Bool) {y : Bool} → y ≡ true → (x || y) ≡ true
or_right true e = refl
or_right false e = e

pub or_either : (x y : Bool) → (x ≡ false → y ≡ true) → (x || y) ≡ true
or_either true y h = refl
or_either false y h = h refl

pub both : (x y : Bool) → (x && y) ≡ true → (x ≡ true) × (y ≡ true)
both true y h = (refl, h)
both false y h = no (cc)
