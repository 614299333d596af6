use Rattle.std.proofs.Common.{ap, ◌∙◌, arith}
use Rattle.message.specs.Meaning.{address}
use Rattle.names.specs.Names.{plain}
use Rattle.party.specs.Parts.{built_party}
use Rattle.addresses.specs.Addresses.{names}
use Rattle.addresses.proofs.Scans.{names_length, place_turn, place_done}
use Rattle.bus.proofs.building.placed.Goals as goal

pub loop-k-preserved : goal.loop-k-preserved
loop-k-preserved c =
    let a = c.args.roster in
    let z = names_length a.addresses.now a.secondaries.now in
    place_turn (names a.addresses.now a.secondaries.now) c.loop-k.k (plain (address 0)) (omega arith) (omega arith)
    c.loop-k.invariant (c.build.ensures ∙ ap built_party c.name_at.ensures)

pub returns : goal.returns
returns c =
    let a = c.args.roster in
    let z = names_length a.addresses.now a.secondaries.now in
    place_done (names a.addresses.now a.secondaries.now) c.loop-k.k (omega arith) c.loop-k.invariant
