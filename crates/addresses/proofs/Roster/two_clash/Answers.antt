use Rattle.std.proofs.Common.{refl, arith}
use Rattle.addresses.specs.Addresses.{names, clashes_with, two_clash}
use Rattle.addresses.proofs.Scans.{names_length, scan_done}
use Rattle.addresses.proofs.Roster.two_clash.Goals as goal

pub returns : goal.returns
returns c =
    let l = names c.args.self.addresses.now c.args.self.secondaries.now in
    let z = names_length c.args.self.addresses.now c.args.self.secondaries.now in
    scan_done two_clash clashes_with refl (λ x xs. refl) l c.loop-i.i c.loop-i.found (two_clash l) c.loop-i.invariant
    (omega arith)
