-- After k turns the sum is that of the first k parties, and at most k.
use Rattle.std.proofs.Common.{◌≡◌, ◌≤◌}
use Rattle.party.specs.Settling.{clear_drops}
use Rattle.parties.specs.Places.{total}
use Rattle.parties.proofs.every.clear_drops.Given as goal

abbrev pub invariant-loop-p : goal.invariant-loop-p
invariant-loop-p l = (l.sum ≡ total l.p-index clear_drops l.fn.ps) × (l.sum ≤ l.p-index)
