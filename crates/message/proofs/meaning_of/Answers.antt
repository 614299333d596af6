-- The code from the table, decoded, is the meaning.
use Rattle.std.proofs.Common.{rules}
use Rattle.message.proofs.Entries.{meant}
use Rattle.message.proofs.meaning_of.Goals as goal

pub returns : goal.returns
returns c = simp (c.decode.ensures, c.code_of.ensures, meant c.args.byte (search rules))
