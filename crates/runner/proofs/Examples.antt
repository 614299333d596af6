-- The examples hold: the definitions compute them.
-- Assumes nothing.
use mathlib.Core.Path.{refl}
use Rattle.runner.specs.Examples.{Examples}

pub examples : Examples
examples = record {
  longest = refl;
  by_number = refl;
  from_the_top = refl;
  by_primary = refl;
  by_secondary = refl;
  primary_first = refl;
  script = refl;
  script_ends = refl;
  nobody = refl;
}
