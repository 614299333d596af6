-- A search through the names from a place on.
use Rattle.std.proofs.Common.{◌≡◌, ◌||◌, drop}
use Rattle.addresses.specs.Addresses.{names, clashes_with}
use Rattle.addresses.proofs.Roster.clashes_with.Given as goal

abbrev pub invariant-loop-i : goal.invariant-loop-i
invariant-loop-i l = (l.found || clashes_with l.n (drop l.i (names l.self.addresses.now l.self.secondaries.now)))
    ≡ clashes_with l.n (drop l.from (names l.self.addresses.now l.self.secondaries.now))
