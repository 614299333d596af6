-- Ties by address (document 02, Q-7): "Where several parties have waited equally long, the runner now takes the lowest
-- primary address, then the lowest secondary."
-- Assumes nothing.
use Rattle.std.specs.Prelude.{ℕ, ◌+◌, ◌&&◌, ◌||◌, ltb, eqb}
use Rattle.bus.specs.declared.Bus.{Bus}
use Rattle.bus.specs.Record.{here}
use Rattle.bus.specs.Types.{Name}
use Rattle.runner.specs.Waiting.{TieOrder, by_place, Orders}
use Rattle.std.specs.Prelude.{Option, Some, None}
use Rattle.message.specs.declared.SecondaryAddress.{SecondaryAddress}

abbrev pub name_at : Bus → ℕ → Name
name_at b x = (here b x).role.name

abbrev pub primary_at : Bus → ℕ → ℕ
primary_at b x = (name_at b x).address.0

-- A party without a secondary comes before those with one; no build has both at one primary.
abbrev pub rank : Option SecondaryAddress → ℕ
rank None = 0
rank (Some s) = s.0 + 1

abbrev pub secondary_at : Bus → ℕ → ℕ
secondary_at b x = rank (name_at b x).secondary

-- Of two places the one with the lower number, and of equal numbers as another order says.
abbrev pub lowest_by : (ℕ → ℕ) → TieOrder → TieOrder
lowest_by number tie x y = ltb (number x) (number y) || (eqb (number y) (number x) && tie x y)

-- "the lowest primary address, then the lowest secondary". Two parties of one name, which no build gives, go by place.
abbrev pub by_address : Bus → TieOrder
by_address b = lowest_by (primary_at b) (lowest_by (secondary_at b) by_place)

-- It puts the places one after the other, on every bus value.
abbrev pub AddressOrders : Type 0
AddressOrders = (b : Bus) (n : ℕ) → Orders (by_address b) n
