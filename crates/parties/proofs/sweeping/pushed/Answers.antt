use Rattle.parties.proofs.Bits.{push_or}
use Rattle.parties.proofs.sweeping.pushed.Goals as goal

pub returns : goal.returns
returns c = push_or c.args.m c.args.on
