use Rattle.std.proofs.Common.{refl, arith}
use Rattle.names.specs.Names.{is_over30}
use Rattle.addresses.specs.Addresses.{names, any_over30}
use Rattle.addresses.proofs.Scans.{names_length, scan_done}
use Rattle.addresses.proofs.Roster.any_over_30.Goals as goal

pub returns : goal.returns
returns c =
    let l = names c.args.self.addresses.now c.args.self.secondaries.now in
    let z = names_length c.args.self.addresses.now c.args.self.secondaries.now in
    scan_done any_over30 (λ x xs. is_over30 x) refl (λ x xs. refl) l c.loop-i.i c.loop-i.found (any_over30 l)
    c.loop-i.invariant (omega arith)
