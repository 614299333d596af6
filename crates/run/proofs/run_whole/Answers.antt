use Rattle.std.proofs.Common.{arith}
use Rattle.text.proofs.Laws.{at_start}
use Rattle.run.proofs.Lines.{at_most}
use Rattle.run.proofs.run_whole.Goals as goal

pub put_text-requires : goal.put_text-requires
put_text-requires c = omega (arith, at_most c.args.script.now)

pub returns : goal.returns
returns c = at_start c.put_text.ensures
