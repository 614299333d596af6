use Rattle.std.proofs.Common.{rules}
use Rattle.text.proofs.Laws.{at_start}
use Rattle.run.proofs.run.Goals as goal

pub returns : goal.returns
returns c = (search rules, at_start c.put_text.ensures)
