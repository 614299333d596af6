use Rattle.std.proofs.Common.{◌∙◌, arith}
use Rattle.party.specs.Driving.{answers_poll}
use Rattle.parties.specs.Places.{at, within}
use Rattle.parties.proofs.Bits.{seen_down}
use Rattle.parties.proofs.polling.answering.Goals as goal

pub loop-k-preserved : goal.loop-k-preserved
loop-k-preserved c = c.pushed-m.ensures ∙ rw c.answers_poll.ensures (seen_down (within c.args.count) c.loop-k.k
    (λ i. answers_poll c.args.line (at c.args.ps i)) (omega arith) (omega arith) (omega arith) c.loop-k.invariant)
