-- Who has the next turn (document 02, Q-1): "A runner steps the party that has waited longest for a turn". Ties are for
-- a tie order to settle: that by address is in Ties.antt. A wait is how many turns others have had since a party's own
-- last one, or since the run began: `ws` has one for each place.
-- Assumes nothing.
use Rattle.std.specs.Prelude.{ℕ, zero, suc, ◌≤◌, ◌<◌, ◌%◌, ◌≡◌, Bool, true, cond, ◌&&◌, ◌||◌, false, List, [], ◌∷◌}
use Rattle.std.specs.Prelude.{map, ltb, eqb, length, get_or, set, replicate}

-- The tie order: does the first of two places come before the second where both have waited equally long?
abbrev pub TieOrder : Type 0
TieOrder = ℕ → ℕ → Bool

-- "ties to the lowest party number": Q-1's order, and by address the last resort.
abbrev pub by_place : TieOrder
by_place x y = ltb x y

abbrev pub wait_of : List ℕ → ℕ → ℕ
wait_of ws x = get_or ws x 0

-- Place x has waited longer than place y, or as long, and is before it in the tie order.
abbrev pub goes_before : TieOrder → List ℕ → ℕ → ℕ → Bool
goes_before tie ws x y = ltb (wait_of ws y) (wait_of ws x) || (eqb (wait_of ws x) (wait_of ws y) && tie x y)

-- The longest waiting of the first n places.
abbrev pub longest_of : TieOrder → List ℕ → ℕ → ℕ
longest_of tie ws zero = 0
longest_of tie ws (suc n) = let x = longest_of tie ws n in cond (goes_before tie ws n x) n x

-- "the party that has waited longest for a turn"
abbrev pub longest_waiting : TieOrder → List ℕ → ℕ
longest_waiting tie ws = longest_of tie ws (length ws)

-- The same in so many words: nobody has waited longer, and whoever has waited as long is behind in the tie order.
pub record WaitedLongest (tie : TieOrder) (ws : List ℕ) (x : ℕ) : Type 0 where
  pub there : x < length ws
  pub longest : (y : ℕ) → y < length ws → wait_of ws y ≤ wait_of ws x
  pub ties : (y : ℕ) → y < length ws → (y ≡ x → ⊥) → wait_of ws y ≡ wait_of ws x → tie x y ≡ true

-- Place x has had its turn, and all others have waited for one turn more.
abbrev pub waited : ℕ → List ℕ → List ℕ
waited x ws = set (map suc ws) x 0

-- The places that have the next t turns.
abbrev pub turns_from : TieOrder → ℕ → List ℕ → List ℕ
turns_from tie zero ws = []
turns_from tie (suc t) ws = longest_waiting tie ws ∷ turns_from tie t (waited (longest_waiting tie ws) ws)

-- "Each run begins with all parties equally long waiting": t turns of n parties.
abbrev pub turns : TieOrder → ℕ → ℕ → List ℕ
turns tie n t = turns_from tie t (replicate n 0)

-- Tie orders, and what they come to: the longest waiting is well found, and from equal waiting the turns go round
-- robin, through the places in the tie order, over and over.

-- A tie order puts the first n places one after the other.
pub record Orders (tie : TieOrder) (n : ℕ) : Type 0 where
  pub asym : (x y : ℕ) → x < n → y < n → tie x y ≡ true → tie y x ≡ false
  pub trans : (x y z : ℕ) → x < n → y < n → z < n → tie x y ≡ true → tie y z ≡ true → tie x z ≡ true
  pub total : (x y : ℕ) → x < n → y < n → (x ≡ y → ⊥) → tie x y ≡ false → tie y x ≡ true

-- Whatever the waits, the definition finds the place that has waited longest.
abbrev pub LongestFound : Type 0
LongestFound = (tie : TieOrder) (ws : List ℕ) → Orders tie (length ws) → 0 < length ws
    → WaitedLongest tie ws (longest_waiting tie ws)

abbrev pub insert : TieOrder → ℕ → List ℕ → List ℕ
insert tie x [] = x ∷ []
insert tie x (y ∷ ys) = cond (tie x y) (x ∷ y ∷ ys) (y ∷ insert tie x ys)

-- The first n places in the tie order.
abbrev pub in_order : TieOrder → ℕ → List ℕ
in_order tie zero = []
in_order tie (suc n) = insert tie n (in_order tie n)

-- Of t turns of n parties, turn k, counted from 0, is that of the place at k mod n in the order.
pub record RoundRobin (tie : TieOrder) (n t : ℕ) : Type 0 where
  -- "until it has given the stated number of turns"
  pub size : length (turns tie n t) ≡ t
  pub turn : (k : ℕ) → k < t → get_or (turns tie n t) k 0 ≡ get_or (in_order tie n) (k % n) 0

abbrev pub GoesRound : Type 0
GoesRound = (tie : TieOrder) (n : ℕ) → Orders tie n → 0 < n → (t : ℕ) → RoundRobin tie n t
