use Rattle.std.specs.Iterator.Adapters.{enumerate_source, enumerate_count}
use Rattle.reader.specs.Handing.{rest}
use Rattle.run.proofs.Going.{Going}
use Rattle.run.proofs.run_all.Given as goal

abbrev pub invariant-loop-i : goal.invariant-loop-i
invariant-loop-i l =
    Going l.script l.initial.out l.out l.bus (rest (enumerate_source l.i-iterator)) (enumerate_count l.i-iterator)
    l.place
