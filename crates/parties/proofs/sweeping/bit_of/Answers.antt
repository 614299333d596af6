use Rattle.std.proofs.Common.{◌<◌, refl, ◌∙◌, arith}
use borrow.Author.Tests.{lt-ltb, le-ltb}
use Rattle.parties.specs.Places.{within}
use Rattle.parties.proofs.Bits.{shifted, bit_alone}
use Rattle.parties.proofs.sweeping.bit_of.Goals as goal

pub returns-then-at-n : goal.returns-then-at-n
returns-then-at-n c =
    let a = c.args in
    let e = c.within-n.ensures.0 in
    let l = c.within-n.ensures.1 in
    let h : a.p.0 < within a.count = omega arith in
    shifted a.p.0 (omega arith) ∙ rw (bit_alone (within a.count) a.p.0, lt-ltb a.p.0 (within a.count) h) refl

pub returns-else-at-n : goal.returns-else-at-n
returns-else-at-n c =
    let a = c.args in
    let e = c.within-n.ensures.0 in
    rw (bit_alone (within a.count) a.p.0, le-ltb a.p.0 (within a.count) (omega arith)) refl
