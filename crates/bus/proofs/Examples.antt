-- P1 to P12 hold, and so do the examples of secondary addresses: the machine computes them.
-- Assumes nothing.
use mathlib.Core.Path.{refl}
use Rattle.message.specs.Meaning.{meaning_of, seven_bits, named}
use Rattle.bus.specs.Examples.{Examples}
use Rattle.bus.specs.Secondaries.{SecondaryExamples}

pub examples : Examples
unfolding meaning_of seven_bits named
examples = refl

pub secondary_examples : SecondaryExamples
unfolding meaning_of seven_bits named
secondary_examples = refl
