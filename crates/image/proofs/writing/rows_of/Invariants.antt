-- After k turns the first k rows are written.
use Rattle.std.proofs.Common.{◌≡◌, map}
use lib.Seq.{paste}
use Rattle.image.specs.Image.{row_of}
use Rattle.image.proofs.writing.rows_of.Given as goal

abbrev pub invariant-loop-k : goal.invariant-loop-k
invariant-loop-k l = l.out ≡ paste l.initial.out 0 (map row_of l.b.parties) l.k
