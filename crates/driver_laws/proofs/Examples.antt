-- The machine computes the examples of who drives the lines.
-- Assumes nothing.
use mathlib.Core.Path.{refl}
use Rattle.message.specs.Meaning.{meaning_of, seven_bits, named}
use Rattle.driver_laws.specs.Examples.{DriverExamples}

pub driver_examples : DriverExamples
unfolding meaning_of seven_bits named
driver_examples = refl
