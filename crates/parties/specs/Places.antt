-- The places of a bus: the party at one, and what is said of the first n, which are those with a party.
-- Assumes nothing.
use Rattle.std.specs.Prelude.{ℕ, zero, suc, ◌+◌, Bool, false, cond, ◌||◌, List, [], ◌∷◌, get_or, set, ltb}
use Rattle.std.specs.Prelude.{Option, Some, None}
use Rattle.party.specs.Parts.{idle}
use Rattle.parties.specs.Types.{Place, Party}

abbrev pub place : ℕ → Place
place i = record { 0 = i }

-- "places without a party hold it": the idle party.
abbrev pub at : List Party → ℕ → Party
at ps i = get_or ps i idle

-- Some party: f holds of one of the first n.
abbrev pub some : ℕ → (Party → Bool) → List Party → Bool
some zero f ps = false
some (suc n) f [] = false
some (suc n) f (p ∷ ps) = f p || some n f ps

-- Every party: f changes each of the first n.
abbrev pub each : ℕ → (Party → Party) → List Party → List Party
each zero f ps = ps
each (suc n) f [] = []
each (suc n) f (p ∷ ps) = f p ∷ each n f ps

-- How many: f summed over the first n.
abbrev pub total : ℕ → (Party → ℕ) → List Party → ℕ
total zero f ps = 0
total (suc n) f [] = 0
total (suc n) f (p ∷ ps) = f p + total n f ps

-- The first of n parties, counted from place i, that f holds of.
abbrev pub first_from : ℕ → ℕ → (Party → Bool) → List Party → Option Place
first_from i zero f ps = None
first_from i (suc n) f [] = None
first_from i (suc n) f (p ∷ ps) = cond (f p) (Some (place i)) (first_from (suc i) n f ps)

abbrev pub talks : Party → Bool
talks p = p.role.talk

abbrev pub first_talker : ℕ → List Party → Option Place
first_talker n ps = first_from 0 n talks ps

-- "the talk-on party other than the sender, if there is one"; "another's talk"
abbrev pub other_talker : ℕ → ℕ → List Party → Option Place
other_talker n i ps = first_talker n (set ps i idle)

-- How the code goes through the places, of which there are fifteen: which place a number is, and the first where it is
-- none.
abbrev pub within : ℕ → ℕ
within n = cond (ltb n 15) n 15

abbrev pub slot : ℕ → ℕ
slot i = cond (ltb i 15) i 0
