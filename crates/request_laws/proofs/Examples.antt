-- The machine computes the examples of the second request bit.
-- Assumes nothing.
use mathlib.Core.Path.{refl}
use Rattle.message.specs.Meaning.{meaning_of, seven_bits, named}
use Rattle.request_laws.specs.Examples.{Examples}

pub examples : Examples
unfolding meaning_of seven_bits named
examples = refl
