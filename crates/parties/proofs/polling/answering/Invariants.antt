-- Before each turn the places from k on have been seen.
use Rattle.std.proofs.Common.{◌≡◌, ◌-◌}
use Rattle.party.specs.Driving.{answers_poll}
use Rattle.parties.specs.Places.{at, within}
use Rattle.parties.specs.Lines.{bits}
use Rattle.parties.proofs.polling.answering.Given as goal

abbrev pub invariant-loop-k : goal.invariant-loop-k
invariant-loop-k l = l.m ≡ bits l.k (within l.count - l.k) (λ i. answers_poll l.line (at l.ps i))
