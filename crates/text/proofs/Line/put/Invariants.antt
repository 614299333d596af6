-- After i turns the first i bytes of the text are stored, in the same buffer.
use Rattle.std.proofs.Common.{◌≡◌, take}
use lib.Seq.{sets}
use Rattle.text.proofs.Line.put.Given as goal

abbrev pub invariant-loop-i : goal.invariant-loop-i
invariant-loop-i l =
    (l.self.at ≡ l.initial.self.at)
    × (l.self.out.now ≡ sets l.initial.self.out.now l.initial.self.at (take l.i l.text))
    × (l.self.out.ghost_name ≡ l.initial.self.out.ghost_name)
