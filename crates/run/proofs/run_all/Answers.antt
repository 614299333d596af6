use Rattle.std.proofs.Common.{ap, arith, rules}
use Rattle.std.specs.Iterator.Adapters.{enumerate_source}
use Rattle.bus.specs.declared.Answer.{Answer}
use Rattle.reader.specs.Handing.{rest}
use Rattle.run.proofs.Going.{start, again, ends}
use Rattle.run.proofs.run_all.Goals as goal

pub loop-i-init : goal.loop-i-init
loop-i-init c =
    let e = c.enumerate-i-items.ensures in
    let s = c.start.ensures in
    rw (c.into_iter-i-iterator.ensures.into_iter_gives, e.source, e.count, s.0, s.1)
    (start c.args.script.now c.args.out.now c.build.result.bus (ap (λ (a : Answer). a.bus) c.build.ensures)
    (omega arith)
    c.requires)

pub loop-i-init-derived : goal.loop-i-init-derived
loop-i-init-derived c = let g = (loop-i-init c).number in search rules

pub loop-i-preserved : goal.loop-i-preserved
loop-i-preserved c =
    let e = c.in-Some.ensures.steps in
    rw e.2 (again c.loop-i.invariant c.in-Some.next (rest (enumerate_source c.next.new.self)) c.answer_to-a.result e.0
    c.answer_to-a.ensures (λ h. rw e.1 at (c.put_line-place.ensures.written h)))

pub returns : goal.returns
returns c = ends c.loop-i.invariant c.in-None.ensures.steps.0.0
