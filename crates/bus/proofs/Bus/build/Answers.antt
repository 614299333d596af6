use Rattle.addresses.specs.Addresses.{go_together}
use Rattle.bus.proofs.Bus.build.Goals as goal

pub returns : goal.returns
unfolding go_together
returns c = c.build_extended.ensures
