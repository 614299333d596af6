-- A whole script: what each record is answered, and the text of the answers (document 01, "The bus script").
-- Assumes nothing.
use Rattle.std.specs.Prelude.{ℕ, ◌+◌, ◌*◌, ◌/◌, ◌<◌, ◌≤◌, ◌≡◌, cond, List, [], ◌∷◌, ◌++◌, ltb, length, drop}
use Rattle.std.specs.Prelude.{Result, Ok, Err}
use Rattle.effect.specs.declared.Refusal.TheVariants as ruling
use Rattle.bus.specs.declared.Bus.{Bus}
use Rattle.bus.specs.declared.Answer.{Answer}
use Rattle.bus.specs.Record.{refuse, no_parties}
use Rattle.reader.specs.Record.{Entry, records}
use Rattle.text.specs.Text.{line_of}
use Rattle.orders.specs.Orders.{answer_to_record}
use Rattle.run.specs.declared.NoRoom.{NoRoom}

-- "A wrong mark or short tail prints its line with 10"
unfoldable pub answer_to : Bus → Entry → Answer
answer_to b (Ok r) = answer_to_record b r
answer_to b (Err e) = refuse ruling.Record b

-- A line for each record, numbered from n, on the bus that the one before it left.
unfoldable pub text_from : Bus → ℕ → List Entry → List ℕ
text_from b n [] = []
text_from b n (r ∷ rs) = line_of n (answer_to b r) ++ text_from (answer_to b r).bus (n + 1) rs

-- "starts from the bus of no parties and prints per record: number from 1 ..; over 65,532 bytes gives only record 0
-- with 10"
unfoldable pub text_of : List ℕ → List ℕ
text_of s = cond (ltb 65532 (length s)) (line_of 0 (refuse ruling.Record no_parties))
    (text_from no_parties 1 (records s))

-- The most lines that a text can have: 1 if the script is over length, else one for each record and part of one.
unfoldable pub line_count : List ℕ → ℕ
line_count s = cond (ltb 65532 (length s)) 1 ((length s + 5) / 6)

-- The n bytes of the text stand at the start of the buffer, and the rest is unchanged.
abbrev pub Printed : List ℕ → List ℕ → List ℕ → ℕ → Type 0
Printed s before after n = (n ≡ length (text_of s)) × (after ≡ text_of s ++ drop n before)

-- Where the buffer has 34 bytes for each line the text is printed into it; where it has less there is no room, and it
-- is unchanged.
abbrev pub RanAs : List ℕ → List ℕ → List ℕ → Result ℕ NoRoom → Type 0
RanAs s before after (Ok n) = (34 * line_count s ≤ length before) × Printed s before after n
RanAs s before after (Err e) = (length before < 34 * line_count s) × (after ≡ before)
