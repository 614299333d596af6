-- After k turns the first k names have their parties.
use Rattle.std.proofs.Common.{◌≡◌, take}
use Rattle.addresses.specs.Addresses.{names, placed}
use Rattle.bus.proofs.building.placed.Given as goal

abbrev pub invariant-loop-k : goal.invariant-loop-k
invariant-loop-k l = l.out ≡ placed 15 (take l.k (names l.roster.addresses.now l.roster.secondaries.now))
