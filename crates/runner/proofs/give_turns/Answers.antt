use Rattle.runner.proofs.Giving.{in_places, again, ends}
use Rattle.runner.proofs.give_turns.Goals as goal

pub bounds-counts-place : goal.bounds-counts-place
bounds-counts-place c = rw c.from.ensures (in_places c.loop-t.invariant)

pub bounds-counts-place-in-loop-t : goal.bounds-counts-place-in-loop-t
bounds-counts-place-in-loop-t c = rw c.from.ensures (in_places c.loop-t.invariant)

pub loop-t-preserved : goal.loop-t-preserved
loop-t-preserved c = rw c.from.ensures
    (again c.loop-t.invariant c.loop-t-test.true (rw c.from.ensures at c.step.ensures))

pub returns : goal.returns
returns c = ends c.loop-t.invariant c.loop-t-test.false c.within-n.ensures.0 c.if-bus-eq0.false
