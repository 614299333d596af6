-- The line of an answer, as ASCII codes. "prints per record: number from 1, refusal, event, byte in two lower-case
-- hexadecimal digits (-- if the event has none), END, dropped, broken" (document 01, "The bus script"); a space between
-- two, and a newline at the end.
-- Assumes nothing.
use Rattle.std.specs.Prelude.{ℕ, ◌+◌, ◌/◌, ◌%◌, ◌≤◌, ◌<◌, ◌≡◌, Bool, cond, List, [], ◌∷◌, ◌++◌, ltb, length}
use Rattle.std.proofs.lemmas.List.Edits.{sets}
use Rattle.event.specs.declared.Event.{Event}
use Rattle.event.specs.Words.{word_text, has_byte}
use Rattle.party.specs.Parts.{one}
use Rattle.effect.specs.Types.{Verdict}
use Rattle.effect.specs.Calls.{verdict_number}
use Rattle.bus.specs.declared.Answer.{Answer}

-- What writing a text at a place does: after is before with the text stored from that place on, and r is the place
-- behind it, still inside the buffer.
pub record Wrote (before : List ℕ) (at : ℕ) (text after : List ℕ) (r : ℕ) : Type 0 where
  pub stored : after ≡ sets before at text
  pub next : r ≡ at + length text
  pub fits : r ≤ length after

-- A line where there are 34 bytes from the place on, into which every line fits; without them the buffer and the place
-- stay as they were.
pub record Put (before : List ℕ) (at : ℕ) (text after : List ℕ) (r : ℕ) : Type 0 where
  pub written : at + 34 ≤ length before → Wrote before at text after r
  pub kept : length before < at + 34 → (after ≡ before) × (r ≡ at)

-- The last decimal digit.
abbrev pub digit_of : ℕ → ℕ
digit_of n = 48 + n % 10

-- A number below 100,000. A record has a number below 10,923 and a count is below 256.
unfoldable pub decimal_of : ℕ → List ℕ
decimal_of n =
    cond (ltb n 10) (digit_of n ∷ []) (
    cond (ltb n 100) (digit_of (n / 10) ∷ digit_of n ∷ []) (
    cond (ltb n 1000) (digit_of (n / 100) ∷ digit_of (n / 10) ∷ digit_of n ∷ []) (
    cond (ltb n 10000) (digit_of (n / 1000) ∷ digit_of (n / 100) ∷ digit_of (n / 10) ∷ digit_of n ∷ [])
    (digit_of (n / 10000) ∷ digit_of (n / 1000) ∷ digit_of (n / 100) ∷ digit_of (n / 10) ∷ digit_of n ∷ []))))

-- A number, and the code that follows it.
unfoldable pub number_text : ℕ → ℕ → List ℕ
number_text n after = decimal_of n ++ (after ∷ [])

-- A digit below 16, "lower-case".
abbrev pub hex_of : ℕ → ℕ
hex_of d = cond (ltb d 10) (48 + d) (87 + d)

abbrev pub hex_text : ℕ → List ℕ
hex_text b = hex_of (b / 16 % 16) ∷ hex_of (b % 16) ∷ 32 ∷ []

-- "byte in two lower-case hexadecimal digits (-- if the event has none)", and a space.
unfoldable pub byte_text : Bool → ℕ → List ℕ
byte_text has b = cond has (hex_text b) (45 ∷ 45 ∷ 32 ∷ [])

-- The number of the record and that of the refusal, 0 for none.
unfoldable pub head_text : ℕ → Verdict → List ℕ
head_text n v = number_text n 32 ++ number_text (verdict_number v) 32

-- The event and its byte.
unfoldable pub event_text : Event → ℕ → List ℕ
event_text e b = word_text e ++ byte_text (has_byte e) b

-- END, dropped, broken, and the end of the line.
unfoldable pub counts_text : Bool → ℕ → ℕ → List ℕ
counts_text end dropped broken = number_text (one end) 32 ++ number_text dropped 32 ++ number_text broken 10

-- The line of record n.
unfoldable pub line_of : ℕ → Answer → List ℕ
line_of n a = head_text n a.verdict ++ event_text a.event a.byte ++ counts_text a.end a.dropped a.broken
