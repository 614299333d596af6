-- After k turns the first k parties are read.
use Rattle.std.proofs.Common.{◌≡◌, map}
use lib.Seq.{paste}
use Rattle.image.specs.Image.{party_of}
use Rattle.image.proofs.reading.parties_of.Given as goal

abbrev pub invariant-loop-k : goal.invariant-loop-k
invariant-loop-k l = l.out ≡ paste l.initial.out 0 (map party_of l.rows) l.k
