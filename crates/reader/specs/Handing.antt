-- "A reader that keeps the script and its place in it hands out records.": what comes when it is asked again and again.
-- Assumes nothing.
use Rattle.std.specs.Prelude.{ℕ, zero, suc, ◌+◌, ◌<◌, ◌≡◌, List, [], ◌∷◌, ◌++◌, length, drop, map, replicate}
use Rattle.std.specs.Prelude.{Option, Some, None}
use Rattle.reader.specs.declared.Reader.{Reader}
use Rattle.reader.specs.Record.{Entry, take_at, records}

-- What a reader has still to hand out.
abbrev pub rest : Reader → List Entry
rest r = records (drop r.at r.script.now)

-- What a reader at a place hands out when it is asked n times: each time it goes on from where the last left it.
unfoldable pub handed : List ℕ → ℕ → ℕ → List (Option Entry)
handed s at zero = []
handed s at (suc n) = (take_at s at).next ∷ handed s (take_at s at).at n

-- What comes before the end.
unfoldable pub until_end : List (Option Entry) → List Entry
until_end [] = []
until_end (None ∷ rs) = []
until_end (Some r ∷ rs) = r ∷ until_end rs

-- Asked from the start of a script until the end comes, a reader hands out the records of the script: each of them, in
-- their order, and nothing else. Asked further, it says each time that the end has come.
pub record HandsOut (s : List ℕ) : Type 0 where
  pub until_the_end : (n : ℕ) → length (records s) < n → until_end (handed s 0 n) ≡ records s
  pub from_then_on : (n : ℕ) → handed s 0 (length (records s) + n) ≡ map Some (records s) ++ replicate n None
