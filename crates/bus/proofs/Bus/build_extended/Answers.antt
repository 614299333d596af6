-- A build that is not bad has at most fifteen addresses, and they are counted in a byte.
use Rattle.std.proofs.Common.{◌≤◌, length, sym, ◌∙◌, arith}
use native.Mathlib.Nat.{mod-eq_of_lt}
use Rattle.addresses.specs.Addresses.{names}
use Rattle.addresses.proofs.Scans.{names_length}
use Rattle.addresses.proofs.Unrefused.{fits}
use Rattle.bus.proofs.Bus.build_extended.Goals as goal

pub placed-requires : goal.placed-requires
placed-requires c =
    let a = c.args in
    let few = fits (names a.addresses.now a.secondaries.now) a.system
    (sym c.bad_build.ensures ∙ c.if-bad_build.false) in
    let z = names_length a.addresses.now a.secondaries.now in
    omega arith

pub returns : goal.returns
returns c =
    let a = c.args in
    let good = sym c.bad_build.ensures ∙ c.if-bad_build.false in
    let few : length a.addresses.now ≤ 15 = rw (sym (names_length a.addresses.now a.secondaries.now))
    (fits (names a.addresses.now a.secondaries.now) a.system good) in
    simp (
      c.accept.ensures,
      c.placed.ensures,
      mod-eq_of_lt {n = length a.addresses.now} {m = 256} (omega arith)
          ∙ sym (names_length a.addresses.now a.secondaries.now),
      sym c.go_together.ensures ∙ c.if-not-go_together.false,
      good,
    )
