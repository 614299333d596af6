-- The machine computes the examples of parallel polls.
-- Assumes nothing.
use mathlib.Core.Path.{refl}
use Rattle.message.specs.Meaning.{meaning_of, seven_bits, named}
use Rattle.poll_laws.specs.Examples.{PollExamples}

pub poll_examples : PollExamples
unfolding meaning_of seven_bits named
poll_examples = refl
