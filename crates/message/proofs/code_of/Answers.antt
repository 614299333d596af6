-- The table's rule, proved once over the whole table: entry b is the code of the meaning of b.
use Rattle.std.proofs.Common.{refl, rules}
use Rattle.message.specs.Meaning.{named, seven_bits, meaning_of, code_of}
use Rattle.message.proofs.Entries.{at}
use Rattle.message.proofs.code_of.Goals as goal

pub returns : goal.returns
unfolding meaning_of seven_bits named
returns c = at (λ b. code_of (meaning_of b)) 0 _ 256 refl c.args.byte (search rules)
