-- What stands on the bus.
-- Assumes nothing.
use Rattle.std.specs.Prelude.{ℕ, Bool, true, false, not, cond, ltb, eqb, Option, Some, None, is_some}
use Rattle.parties.specs.Places.{slot}
use Rattle.effect.specs.Types.{Place, Kind, Command, Data, Status, Standing, View}

-- The standing byte of this sender, of this kind and value, with END or without.
abbrev pub sent : Place → Kind → ℕ → Bool → Standing
sent s k v e = record { sender = s; kind = k; value = v; end = e }

abbrev pub stands : Option Standing → Bool
stands st = is_some st

abbrev pub has_end : Option Standing → Bool
has_end None = false
has_end (Some b) = b.end

abbrev pub of_command : Kind → Bool
of_command Command = true
of_command Data = false
of_command Status = false

-- "the sender of a standing command"
abbrev pub sends_command : ℕ → Option Standing → Bool
sends_command i None = false
sends_command i (Some b) = cond (of_command b.kind) (eqb i b.sender.0) false

-- Does a command of its party stand, as a call sees it?
abbrev pub sends : View → Bool
sends v = sends_command v.place.0 v.standing

-- "EOI is driven by the sender of a standing byte with END" (document 02, Q-4)
abbrev pub sends_end : ℕ → Option Standing → Bool
sends_end i None = false
sends_end i (Some b) = cond b.end (eqb i b.sender.0) false

-- The place of the sender, and the first where nothing stands.
abbrev pub sender_slot : Option Standing → ℕ
sender_slot None = 0
sender_slot (Some b) = slot b.sender.0

-- Is it broken off by settling, where it is known whether the party at the sender's place is a source. Who is at no
-- place is none.
abbrev pub is_left : Bool → Option Standing → Bool
is_left source None = false
is_left source (Some b) = cond (ltb b.sender.0 15) (not source) true
