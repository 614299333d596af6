use Rattle.std.proofs.Common.{arith}
use Rattle.text.proofs.Lengths.{line_length}
use Rattle.text.proofs.put_line.Goals as goal

pub put_parts-requires : goal.put_parts-requires
put_parts-requires c = record { fits = omega (arith, line_length c.args.n c.args.a) }
