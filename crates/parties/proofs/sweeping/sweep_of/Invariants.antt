-- Before each turn the places from k on have been seen.
use Rattle.std.proofs.Common.{◌≡◌}
use Rattle.parties.specs.Places.{within}
use Rattle.parties.proofs.Sweeps.{swept_from}
use Rattle.parties.proofs.sweeping.sweep_of.Given as goal

abbrev pub invariant-loop-k : goal.invariant-loop-k
invariant-loop-k l = l.s ≡ swept_from l.k (within l.count) l.ps
