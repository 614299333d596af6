-- Before each turn the lines from this one on have been asked.
use Rattle.std.proofs.Common.{◌≡◌, ◌-◌}
use Rattle.parties.specs.Lines.{bits, line_on}
use Rattle.parties.proofs.polling.poll_byte.Given as goal

abbrev pub invariant-loop-line : goal.invariant-loop-line
invariant-loop-line l = l.m ≡ bits l.line (8 - l.line) (line_on l.count l.ps)
