-- Which accesses are carried, and which are writes.
-- Assumes nothing.
use Prim.Native.Nat.{ℕ, ◌%◌, ◌/◌}
use mathlib.Core.Path.{◌≡◌, refl, sym, ap, ◌∙◌}
use mathlib.Core.Bool.{Bool, true, false, cond, ◌&&◌, ◌||◌}
use Rattle.std.specs.Prelude.{Option, Some, None, is_some}
use lib.Dec.{eqb}
use borrow.Author.Tests.{eqb-true}
use Rattle.role.proofs.Logic.{no, test, cond-elim}
use Rattle.effect.specs.Calls.{is_on}
use Rattle.registers.specs.declared.Access.{Access}
use Rattle.registers.specs.declared.Access.TheVariants.{Read, Write}
use Rattle.registers.specs.declared.Auxiliary.{Auxiliary}
use Rattle.registers.specs.declared.Auxiliary.TheVariants as aux
use Rattle.registers.specs.Registers.{auxiliary_of, commanded_by, stands_for}
use Rattle.bus.specs.Types.{Place, Act}
use Rattle.bus.specs.Types.call_of
use Rattle.bus.specs.Types.act_of
use Rattle.bus.specs.Delivery.{is_write}
use Rattle.register_laws.specs.Accesses.{is_carried_code, is_carried, HostBytes}

carried_code : (c : ℕ) → is_carried_code c ≡ is_some (auxiliary_of c)
unfolding auxiliary_of
carried_code c = go (eqb c 0) (eqb c 5) (eqb c 8) (eqb c 9) (eqb c 10) (eqb c 11) (eqb c 12) (eqb c 15) (eqb c 24)
  where
    go : (k₀ k₁ k₂ k₃ k₄ k₅ k₆ k₇ k₈ : Bool) → (k₀ || k₁ || k₂ || k₃ || k₄ || k₅ || k₆ || k₇ || k₈)
        ≡ is_some (cond k₀ (Some aux.Swrst) (cond k₁ (Some aux.Nbaf) (cond k₂ (Some aux.Feoi)
        (cond k₃ (Some aux.Lon) (cond k₄ (Some aux.Ton) (cond k₅ (Some aux.Gts) (cond k₆ (Some aux.Tca)
        (cond k₇ (Some aux.Sic) (cond k₈ (Some aux.Rsv2) None)))))))))
    go true k₁ k₂ k₃ k₄ k₅ k₆ k₇ k₈ = refl
    go false true k₂ k₃ k₄ k₅ k₆ k₇ k₈ = refl
    go false false true k₃ k₄ k₅ k₆ k₇ k₈ = refl
    go false false false true k₄ k₅ k₆ k₇ k₈ = refl
    go false false false false true k₅ k₆ k₇ k₈ = refl
    go false false false false false true k₆ k₇ k₈ = refl
    go false false false false false false true k₇ k₈ = refl
    go false false false false false false false true k₈ = refl
    go false false false false false false false false true = refl
    go false false false false false false false false false = refl

abbrev Is : Act → Type 0
Is a = a ≡ act_of.NoRegister

-- a command is refused for its code exactly where that is not carried
not_known : (x : Option Auxiliary) (on : ℕ) → is_some x ≡ false → Is (commanded_by x on)
not_known None on e = refl
not_known (Some x) on e = no (cc)

set_is : (s : Bool) (a : Act) → (Is a → ⊥) → Is (cond s a act_of.DoNothing) → ⊥
set_is true a f e = f e
set_is false a f e = no (cc)

known_not : (x : Option Auxiliary) (on : ℕ) → Is (commanded_by x on) → is_some x ≡ false
known_not None on e = refl
known_not (Some aux.Swrst) on e = absurd (set_is (is_on on) act_of.Reset (λ h. no (cc)) e)
known_not (Some aux.Sic) on e = absurd (set_is (is_on on) act_of.InterfaceClear (λ h. no (cc)) e)
known_not (Some x) on e = no (cc)

pub not_carried : (a : Access) → is_carried a ≡ false → stands_for a ≡ act_of.NoRegister
not_carried (Read o) = go (eqb o 3) (eqb o 7)
  where
    go : (x y : Bool) → (x || y) ≡ false → Is (cond x act_of.BusStatus (cond y act_of.Read act_of.NoRegister))
    go true y e = no (cc)
    go false true e = no (cc)
    go false false e = refl
not_carried (Write o v) = rw (carried_code (v % 32)) (go (eqb o 3) (eqb o 5) (eqb o 7) (auxiliary_of (v % 32)))
  where
    go : (x y z : Bool) (c : Option Auxiliary) → ((x && is_some c) || y || z) ≡ false
        → Is (cond x (commanded_by c (v / 128))
        (cond y (act_of.PollRegister v) (cond z (act_of.DataOut v) act_of.NoRegister)))
    go true y z c e = test (is_some c) (λ h. absurd (known h)) (λ h. not_known c (v / 128) h)
      where
        known : is_some c ≡ true → ⊥
        known h = let k : ((true && is_some c) || y || z) ≡ true = rw h refl in no (cc)
    go false true z c e = no (cc)
    go false false true c e = no (cc)
    go false false false c e = refl

pub carried_not : (a : Access) → stands_for a ≡ act_of.NoRegister → is_carried a ≡ false
carried_not (Read o) = go (eqb o 3) (eqb o 7)
  where
    go : (x y : Bool) → Is (cond x act_of.BusStatus (cond y act_of.Read act_of.NoRegister)) → (x || y) ≡ false
    go true y e = no (cc)
    go false true e = no (cc)
    go false false e = refl
carried_not (Write o v) = rw (carried_code (v % 32)) (go (eqb o 3) refl (eqb o 5) refl (eqb o 7) refl
    (auxiliary_of (v % 32)))
  where
    go : (x : Bool) → eqb o 3 ≡ x → (y : Bool) → eqb o 5 ≡ y → (z : Bool) → eqb o 7 ≡ z → (c : Option Auxiliary)
        → Is (cond x (commanded_by c (v / 128))
        (cond y (act_of.PollRegister v) (cond z (act_of.DataOut v) act_of.NoRegister)))
        → ((x && is_some c) || y || z) ≡ false
    go true f y g z h c e = let q = eqb-true o 3 f in
        let g' : y ≡ false = sym g ∙ ap (λ (n : ℕ). eqb n 5) q in
        let h' : z ≡ false = sym h ∙ ap (λ (n : ℕ). eqb n 7) q in
        rw (known_not c (v / 128) e, g', h') refl
    go false f true g z h c e = no (cc)
    go false f false g true h c e = no (cc)
    go false f false g false h c e = refl

-- no command writes
abbrev NotWrite : Place → Act → Type 0
NotWrite p a = is_write (call_of.Of p a) ≡ false

command_writes : (p : Place) (x : Option Auxiliary) (on : ℕ) → NotWrite p (commanded_by x on)
command_writes p (Some aux.Swrst) on = cond-elim (NotWrite p) (is_on on) (λ _. refl) (λ _. refl)
command_writes p (Some aux.Sic) on = cond-elim (NotWrite p) (is_on on) (λ _. refl) (λ _. refl)
command_writes p x on = refl

pub host_bytes : HostBytes
host_bytes p (Read o) = go (eqb o 3) (eqb o 7)
  where
    go : (x y : Bool) → is_write (call_of.Of p (cond x act_of.BusStatus (cond y act_of.Read act_of.NoRegister))) ≡ false
    go true y = refl
    go false true = refl
    go false false = refl
host_bytes p (Write o v) = go (eqb o 3) refl (eqb o 5) refl (eqb o 7) refl
  where
    go : (x : Bool) → eqb o 3 ≡ x → (y : Bool) → eqb o 5 ≡ y → (z : Bool) → eqb o 7 ≡ z
        → is_write (call_of.Of p (cond x (commanded_by (auxiliary_of (v % 32)) (v / 128))
        (cond y (act_of.PollRegister v) (cond z (act_of.DataOut v) act_of.NoRegister)))) ≡ z
    go true f y g z h = command_writes p (auxiliary_of (v % 32)) (v / 128)
        ∙ sym (ap (λ (n : ℕ). eqb n 7) (eqb-true o 3 f)) ∙ h
    go false f true g z h = sym (ap (λ (n : ℕ). eqb n 7) (eqb-true o 5 g)) ∙ h
    go false f false g true h = refl
    go false f false g false h = refl
