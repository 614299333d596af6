use Rattle.std.proofs.Common.{length, ap, rules}
use Rattle.std.specs.Prelude.{Option, Some, None, ⊤}
use Rattle.std.specs.Iterator.{YieldsFirst, MakesProgress, item_count}
use Rattle.reader.specs.declared.Reader.{Reader}
use Rattle.reader.specs.Record.{Entry}
use Rattle.reader.specs.Handing.{rest}
use Rattle.reader.proofs.Records.{turn}
use Rattle.reader.proofs.ReaderIterator.next.Goals as goal

pub returns-clause-steps : goal.returns-clause-steps
returns-clause-steps c =
    let r = c.args.self.now in
    let e = c.take.ensures in
    rw (e.0, e.1.0, e.1.1) (turn r.script.now r.at).gives

goes : (r t : Reader) (o : Option Entry) → YieldsFirst rest r o t → MakesProgress (λ _. ⊤) (item_count rest) r o t
goes r t None y = search rules
goes r t (Some e) y = let shorter = ap length y in search rules

pub returns-clause-goes : goal.returns-clause-goes
returns-clause-goes c = goes _ _ _ (returns-clause-steps c)
