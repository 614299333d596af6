-- The machine computes the examples of what is kept.
-- Assumes nothing.
use mathlib.Core.Path.{refl}
use Rattle.message.specs.Meaning.{meaning_of, seven_bits, named}
use Rattle.turn_laws.specs.Examples.{Examples}

pub examples : Examples
unfolding meaning_of seven_bits named
examples = refl
