-- Document 01's word and number for each event, and whether it has a byte.
-- Assumes nothing.
use Rattle.std.specs.Prelude.{ℕ, Bool, true, false, List, [], ◌∷◌, ◌++◌}
use Prim.Native.Char.{code}
use Prim.Native.String.{String, [] as []ˢ, ◌∷◌ as ◌∷ˢ◌}
use Rattle.event.specs.declared.Event.{Event}
use Rattle.event.specs.declared.Event.TheVariants as ev

-- "Events: none, moved .., cmd, data, stat (puts), took, heard, clear, trigger, ended, passed, noacc, read, lines"
abbrev pub event_word : Event → String
event_word ev.None = "none"
event_word ev.Moved = "moved"
event_word ev.Cmd = "cmd"
event_word ev.Data = "data"
event_word ev.Stat = "stat"
event_word ev.Took = "took"
event_word ev.Heard = "heard"
event_word ev.Clear = "clear"
event_word ev.Trigger = "trigger"
event_word ev.Ended = "ended"
event_word ev.Passed = "passed"
event_word ev.Noacc = "noacc"
event_word ev.Read = "read"
event_word ev.Lines = "lines"

-- In the order in which document 01 lists them.
abbrev pub event_number : Event → ℕ
event_number ev.None = 0
event_number ev.Moved = 1
event_number ev.Cmd = 2
event_number ev.Data = 3
event_number ev.Stat = 4
event_number ev.Took = 5
event_number ev.Heard = 6
event_number ev.Clear = 7
event_number ev.Trigger = 8
event_number ev.Ended = 9
event_number ev.Passed = 10
event_number ev.Noacc = 11
event_number ev.Read = 12
event_number ev.Lines = 13

-- "the first two have no byte"
abbrev pub has_byte : Event → Bool
has_byte ev.None = false
has_byte ev.Moved = false
has_byte ev.Cmd = true
has_byte ev.Data = true
has_byte ev.Stat = true
has_byte ev.Took = true
has_byte ev.Heard = true
has_byte ev.Clear = true
has_byte ev.Trigger = true
has_byte ev.Ended = true
has_byte ev.Passed = true
has_byte ev.Noacc = true
has_byte ev.Read = true
has_byte ev.Lines = true

-- The ASCII codes of a text.
unfoldable pub codes : String → List ℕ
codes []ˢ = []
codes (c ∷ˢ s) = code c ∷ codes s

-- The event's word, and a space.
unfoldable pub word_text : Event → List ℕ
word_text e = codes (event_word e) ++ (32 ∷ [])
