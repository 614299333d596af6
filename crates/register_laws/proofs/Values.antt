-- No byte is refused for its value, whatever register it is written to.
-- Assumes nothing.
use Prim.Native.Nat.{ℕ, ◌≤◌, ◌<◌, ◌%◌, ◌/◌}
use native.Mathlib.Omega.{arith}
use mathlib.Core.Path.{◌≡◌}
use mathlib.Core.Bool.{true}
use mathlib.Core.Logic.{inl, inr}
use Rattle.std.specs.Prelude.{Option, Some}
use lib.Dec.{eqb, ltb}
use borrow.Author.Tests.{ltb-true}
use Rattle.role.proofs.Logic.{no, cond-elim}
use Rattle.effect.specs.Calls.{is_on}
use Rattle.registers.specs.declared.Auxiliary.{Auxiliary}
use Rattle.registers.specs.declared.Auxiliary.TheVariants as aux
use Rattle.registers.specs.declared.Access.TheVariants.{Write}
use Rattle.registers.specs.Registers.{auxiliary_of, commanded_by, stands_for}
use Rattle.bus.specs.Types.{Act}
use Rattle.bus.specs.Types.call_of
use Rattle.bus.specs.Machine as m
use Rattle.effect.specs.Calls.{switch_of}
use Rattle.state_laws.proofs.Answers.{Met, call_met}
use Rattle.register_laws.specs.Accesses.{AnyByte}

-- a switch that comes of a byte is 0 or 1
abbrev Small : Act → Type 0
Small a = switch_of a ≤ 1

command_small : (x : Option Auxiliary) (v : ℕ) → v < 256 → Small (commanded_by x (v / 128))
command_small (Some aux.Swrst) v l = cond-elim Small (is_on (v / 128)) (λ _. omega arith) (λ _. omega arith)
command_small (Some aux.Sic) v l = cond-elim Small (is_on (v / 128)) (λ _. omega arith) (λ _. omega arith)
command_small x v l = omega arith

write_small : (o v : ℕ) → v < 256 → Small (stands_for (Write o v))
write_small o v l = cond-elim Small (eqb o 3) (λ _. command_small (auxiliary_of (v % 32)) v l)
    (λ _. cond-elim Small (eqb o 5) (λ _. omega arith)
    (λ _. cond-elim Small (eqb o 7) (λ _. omega arith) (λ _. omega arith)))

pub any_byte : AnyByte
any_byte b p o v l e = go (call_met b (call_of.Of p (stands_for (Write o v))))
  where
    over : 1 < switch_of (stands_for (Write o v)) → ⊥
    over h = let s = write_small o v l in omega arith

    go : Met (call_of.Of p (stands_for (Write o v))) (m.accessed b p (Write o v)).verdict → ⊥
    go (inl h) = let z : ltb 1 (switch_of (stands_for (Write o v))) ≡ true = rw e at h in
        over (ltb-true 1 (switch_of (stands_for (Write o v))) z)
    go (inr h) = let z = h.0 in no (cc)
