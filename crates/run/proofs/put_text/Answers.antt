use Rattle.std.proofs.Common.{arith}
use borrow.Author.Tests.{lt-ltb, le-ltb}
use Rattle.run.specs.Run.{text_of}
use Rattle.run.proofs.Lines.{over, within}
use Rattle.run.proofs.put_text.Goals as goal

pub returns-then-script-gt-LONGEST : goal.returns-then-script-gt-LONGEST
unfolding text_of
returns-then-script-gt-LONGEST c =
    let l = over c.args.script.now c.if-script-gt-LONGEST.true in
    rw (lt-ltb _ _ c.if-script-gt-LONGEST.true)
    (rw c.refuse-a.ensures at (c.put_line.ensures.written (omega (arith, l, c.requires))))

pub run_all-requires : goal.run_all-requires
run_all-requires c = omega (arith, within c.args.script.now c.if-script-gt-LONGEST.false, c.requires)

pub returns : goal.returns
unfolding text_of
returns c = rw (le-ltb _ _ c.if-script-gt-LONGEST.false) c.run_all.ensures
