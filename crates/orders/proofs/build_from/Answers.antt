use Rattle.std.proofs.Common.{ℕ, List, sym, ap, ◌∙◌, arith}
use Rattle.bus.specs.Record.{build}
use Rattle.orders.specs.Orders.{build_from}
use Rattle.orders.proofs.Building.{too_many, too_high, first_of}
use Rattle.orders.proofs.build_from.Goals.{then-n-gt15-via-then-n-gt15, then-n-gt15-via-else-n-gt15+then-first-gt30}
use Rattle.orders.proofs.build_from.Goals as goal

pub returns-then-n-gt15 : goal.returns-then-n-gt15
unfolding build_from
returns-then-n-gt15 c =
    let a = c.args in
    c.build.ensures ∙ sym (elim c.then-n-gt15.branch [
      | then-n-gt15-via-then-n-gt15 w ↦ too_many a.n a.first a.system w.if-n-gt15.true
      | then-n-gt15-via-else-n-gt15+then-first-gt30 w ↦ too_high a.n a.first a.system w.if-first-gt30.true
    ])

pub returns : goal.returns
unfolding build_from
returns c =
    let a = c.args in
    c.build-2.ensures ∙ ap (λ (l : List ℕ). build l a.system)
    (first_of a.n a.first c.loop-i.address-items (omega arith) (λ k h. c.loop-i.invariant k (omega arith)))
