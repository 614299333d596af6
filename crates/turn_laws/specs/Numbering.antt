-- Turns by address (document 02, Q-7), and what the numbering of the parties has to do with them.
-- Assumes nothing.
use Rattle.std.specs.Prelude.{ℕ, ◌≤◌, ◌<◌, ◌≡◌, List, map, ◌⊎◌, get_or}
use Rattle.bus.specs.declared.Bus.{Bus}
use Rattle.bus.specs.Delivery.{history}
use Rattle.runner.specs.Waiting.{by_place}
use Rattle.runner.specs.Runner.{steps, turns_of, give_turns}
use Rattle.runner.specs.Lists.{Item, led_by, expanded, LedTo}
use Rattle.runner.specs.Ties.{name_at, primary_at, secondary_at, by_address}

-- What `by_address` says in so many words: the primary address of x is the lower one; or they have one, and the
-- secondary of x is the lower one; or they have one name, and x is the lower place.
abbrev pub IsBefore : Bus → ℕ → ℕ → Type 0
IsBefore b x y = (primary_at b x < primary_at b y) ⊎ ((primary_at b x ≡ primary_at b y)
    × ((secondary_at b x < secondary_at b y) ⊎ ((secondary_at b x ≡ secondary_at b y) × (x < y))))

-- Of two of the first n turns of a run the earlier one is that of the lower address.
abbrev pub FirstRound : Type 0
FirstRound = (b : Bus) → b.count ≤ 15 → (t i j : ℕ) → i < j → j < b.count → j < t
    → IsBefore b (get_or (turns_of (by_address b) b t) i 0) (get_or (turns_of (by_address b) b t) j 0)

-- "a run whose parties are numbered in address order must give the turns that it gave before"

abbrev pub Numbered : Bus → Type 0
Numbered b = (x y : ℕ) → x < y → y < b.count → IsBefore b x y

-- The turns, the answers to them, the verdict, the counts and the bus are those of ties to the lowest place, which Q-1
-- had.
pub record AsByPlace (b : Bus) (t : ℕ) : Type 0 where
  pub turns : turns_of (by_address b) b t ≡ turns_of by_place b t
  pub answers : history b (steps (turns_of (by_address b) b t)) ≡ history b (steps (turns_of by_place b t))
  pub given : give_turns (by_address b) b t ≡ give_turns by_place b t

abbrev pub AsBefore : Type 0
AsBefore = (b : Bus) → Numbered b → (t : ℕ) → AsByPlace b t

-- And no other: where the turns of a whole round are as before, the parties are numbered so.
abbrev pub OnlyAsBefore : Type 0
OnlyAsBefore = (b : Bus) → b.count ≤ 15 → turns_of (by_address b) b b.count ≡ turns_of by_place b b.count
    → Numbered b

-- Since no call changes a name, such a rack has in every list the calls and the bus that it had.
abbrev pub AlwaysAsBefore : Type 0
AlwaysAsBefore = (b : Bus) → Numbered b → (xs : List Item)
    → (expanded by_address b xs ≡ expanded (λ c. by_place) b xs)
    × (led_by by_address b xs ≡ led_by (λ c. by_place) b xs)

-- "Sites number their parties as they please and compare runs by address."

-- The bus c has the names of b, that of place x at place f x; g leads back.
pub record Renumbered (f g : ℕ → ℕ) (b c : Bus) : Type 0 where
  pub count : c.count ≡ b.count
  pub there : (x : ℕ) → x < b.count → f x < b.count
  pub back : (y : ℕ) → y < b.count → (g y < b.count) × (f (g y) ≡ y)
  pub names : (x : ℕ) → x < b.count → name_at c (f x) ≡ name_at b x

-- However the parties are numbered, the turns go to the same addresses one after the other.
abbrev pub SameAddresses : Type 0
SameAddresses = (f g : ℕ → ℕ) (b c : Bus) → LedTo b → Renumbered f g b c → (t : ℕ)
    → turns_of (by_address c) c t ≡ map f (turns_of (by_address b) b t)
