use Rattle.std.proofs.Common.{set, take, ap}
use Rattle.parties.specs.Places.{at, each}
use Rattle.parties.proofs.Loops.{turn, each_turn, all_changed}
use Rattle.parties.proofs.every.change_all.Goals as goal

pub loop-p-preserved : goal.loop-p-preserved
loop-p-preserved g c =
    let f = g.C.Change.changed c.args.c in
    let k = c.loop-p.p-index in
    let ps = take c.within.result c.args.ps.now in
    turn (λ k. each k f ps) (λ l. set l k (f (at l k))) k (each_turn k f ps c.loop-p-test.true) c.loop-p.invariant
    (ap (λ q. set c.loop-p.p-items k q) c.changed.ensures)

pub returns : goal.returns
returns g c = all_changed c.args.count c.within.result c.loop-p.p-index (g.C.Change.changed c.args.c) c.args.ps.now
    c.told-ps c.within.ensures c.loop-p.auto.p-index-end c.loop-p-test.false c.loop-p.invariant
