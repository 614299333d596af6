-- A search through the names.
use Rattle.std.proofs.Common.{◌≡◌, ◌||◌, drop}
use Rattle.addresses.specs.Addresses.{names, any_over30}
use Rattle.addresses.proofs.Roster.any_over_30.Given as goal

abbrev pub invariant-loop-i : goal.invariant-loop-i
invariant-loop-i l = (l.found || any_over30 (drop l.i (names l.self.addresses.now l.self.secondaries.now)))
    ≡ any_over30 (names l.self.addresses.now l.self.secondaries.now)
