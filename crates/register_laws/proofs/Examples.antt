-- The machine computes the examples of a driver's life by registers.
-- Assumes nothing.
use mathlib.Core.Path.{refl}
use Rattle.message.specs.Meaning.{meaning_of, seven_bits, named}
use Rattle.registers.specs.Registers.{auxiliary_of}
use Rattle.register_laws.specs.Examples.{RegisterExamples}

pub register_examples : RegisterExamples
unfolding meaning_of seven_bits named auxiliary_of
register_examples = refl
