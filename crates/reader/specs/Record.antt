-- The records of a script. "A record is 6 bytes: mark 47 42 (hexadecimal), operation, party, value, extra." (document
-- 01, "The bus script")
-- Assumes nothing.
use Rattle.std.specs.Prelude.{ℕ, ◌+◌, ◌-◌, List, [], ◌∷◌, cond, ◌&&◌, length, get_or, ltb, eqb}
use Rattle.std.specs.Prelude.{Option, Some, None, Result, Ok, Err}
use Rattle.reader.specs.declared.Record.{Record}
use Rattle.reader.specs.declared.BadRecord.{BadRecord}
use Rattle.reader.specs.declared.Taken.{Taken}

-- A record by its four numbers.
abbrev pub record_of : ℕ → ℕ → ℕ → ℕ → Record
record_of op party value extra = record { op = op; party = party; value = value; extra = extra }

-- What a reader may hand out: a record or something bad.
abbrev pub Entry : Type 0
Entry = Result Record BadRecord

abbrev pub good : ℕ → ℕ → ℕ → ℕ → Entry
good op party value extra = Ok (record_of op party value extra)

abbrev pub bad : Entry
bad = Err (record {})

-- At the end nothing; six bytes with the mark are a record; "a wrong mark or short tail" is bad.
unfoldable pub record_at : List ℕ → ℕ → Option Entry
record_at s at =
    cond (ltb at (length s)) (Some (
    cond (ltb (length s - at) 6) bad (
    cond (eqb (get_or s at 0) 0x47) (
    cond (eqb (get_or s (at + 1) 0) 0x42)
    (good (get_or s (at + 2) 0) (get_or s (at + 3) 0) (get_or s (at + 4) 0) (get_or s (at + 5) 0))
    bad) bad))) None

-- The records of a script. What is none is the last.
unfoldable pub records : List ℕ → List Entry
records [] = []
records (a ∷ []) = bad ∷ []
records (a ∷ b ∷ []) = bad ∷ []
records (a ∷ b ∷ c ∷ []) = bad ∷ []
records (a ∷ b ∷ c ∷ d ∷ []) = bad ∷ []
records (a ∷ b ∷ c ∷ d ∷ e ∷ []) = bad ∷ []
records (a ∷ b ∷ op ∷ party ∷ value ∷ extra ∷ rest) =
    cond (eqb a 0x47 && eqb b 0x42) (good op party value extra ∷ records rest) (bad ∷ [])

-- The place after what stands at a place, in a script of len bytes: "A record is 6 bytes"; "A wrong mark or short tail
-- .. ends the run".
abbrev pub after_of : Option Entry → ℕ → ℕ → ℕ
after_of (Some (Ok r)) at len = at + 6
after_of (Some (Err e)) at len = len
after_of None at len = len

unfoldable pub after_at : List ℕ → ℕ → ℕ
after_at s at = after_of (record_at s at) at (length s)

-- "A reader that keeps the script and its place in it hands out records": what it hands out at a place, and its place
-- after that.
abbrev pub take_at : List ℕ → ℕ → Taken
take_at s at = record { next = record_at s at; at = after_at s at }
