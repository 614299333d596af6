use Rattle.std.proofs.Common.{◌≡◌, ◌-◌, length, ◌∙◌, arith, rules}
use Rattle.party.specs.Driving.{answers_poll}
use Rattle.parties.specs.Lines.{line_on}
use Rattle.parties.proofs.Bits.{bits_lt, seen_down, seen_all}
use Rattle.parties.proofs.Loops.{length_of_map}
use Rattle.parties.proofs.Sweeps.{line_on_lem}
use Rattle.parties.proofs.polling.poll_byte.Goals as goal

pub loop-line-preserved : goal.loop-line-preserved
loop-line-preserved c =
    let a = c.args in
    let z : length a.ps ≡ 15 = search (rules, length_of_map) in
    c.pushed-m.ensures ∙ rw (
      c.has_driver.ensures,
      c.answering.ensures,
      line_on_lem a.count a.ps z (answers_poll (c.loop-line.line - 1)),
    ) (seen_down 8 c.loop-line.line (line_on a.count a.ps) (omega arith) (omega arith) (omega arith)
    c.loop-line.invariant)

pub returns : goal.returns
returns c =
    let a = c.args in
    let e = c.loop-line.invariant ∙ seen_all 8 c.loop-line.line (line_on a.count a.ps) (omega arith) in
    let l = bits_lt 0 8 (line_on a.count a.ps) in
    omega (arith, e, l)
