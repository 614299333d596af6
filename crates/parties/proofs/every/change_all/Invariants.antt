-- After k turns the first k parties are changed.
use Rattle.std.proofs.Common.{◌≡◌}
use Rattle.parties.specs.Places.{each}
use Rattle.parties.proofs.every.change_all.Given as goal

abbrev pub invariant-loop-p : goal.invariant-loop-p
invariant-loop-p g l = l.p-items ≡ each l.p-index (g.C.Change.changed l.c) l.initial.p-items
