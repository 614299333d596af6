use Rattle.std.proofs.Common.{arith}
use Rattle.parties.specs.Places.{within}
use Rattle.parties.proofs.Sweeps.{swept_down}
use Rattle.parties.proofs.sweeping.sweep_of.Goals as goal

pub loop-k-preserved : goal.loop-k-preserved
loop-k-preserved c = swept_down (within c.args.count) c.loop-k.k c.args.ps (omega arith) (omega arith)
    (omega arith) c.loop-k.invariant c.swept_by-s.ensures
