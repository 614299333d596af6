-- A search through the names: does one of them clash with one of those after it?
use Rattle.std.proofs.Common.{◌≡◌, ◌||◌, drop}
use Rattle.addresses.specs.Addresses.{names, two_clash}
use Rattle.addresses.proofs.Roster.two_clash.Given as goal

abbrev pub invariant-loop-i : goal.invariant-loop-i
invariant-loop-i l = (l.found || two_clash (drop l.i (names l.self.addresses.now l.self.secondaries.now)))
    ≡ two_clash (names l.self.addresses.now l.self.secondaries.now)
