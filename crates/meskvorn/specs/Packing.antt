-- An answer as one number, and a name as one number.
-- Assumes nothing.
use Rattle.std.specs.Prelude.{ℕ, ◌+◌, ◌*◌, ◌/◌, ◌%◌, ◌<◌, ◌≡◌}
use Rattle.names.specs.declared.Name.{Name}
use Rattle.party.specs.Parts.{one}
use Rattle.event.specs.Words.{event_number}
use Rattle.effect.specs.Calls.{verdict_number}
use Rattle.bus.specs.declared.Answer.{Answer}
use Rattle.std.specs.Prelude.{Option, Some, None}
use Rattle.message.specs.declared.SecondaryAddress.{SecondaryAddress}

-- Six bytes as one number, the first the lowest.
abbrev pub bytes : ℕ → ℕ → ℕ → ℕ → ℕ → ℕ → ℕ
bytes a b c d e f = a + 256 * (b + 256 * (c + 256 * (d + 256 * (e + 256 * f))))

-- "An answer carries: refusal, event, byte, END, dropped (0 to 2), broken (0 or 1)."
abbrev pub packed : Answer → ℕ
packed a = bytes (verdict_number a.verdict) (event_number a.event) a.byte (one a.end) a.dropped a.broken

-- A host takes the number apart, and has every part.
pub record TakenApart (a : Answer) : Type 0 where
  pub refusal : packed a % 256 ≡ verdict_number a.verdict
  pub event : packed a / 256 % 256 ≡ event_number a.event
  pub byte : packed a / 256 / 256 % 256 ≡ a.byte
  pub end : packed a / 256 / 256 / 256 % 256 ≡ one a.end
  pub dropped : packed a / 256 / 256 / 256 / 256 % 256 ≡ a.dropped
  pub broken : packed a / 256 / 256 / 256 / 256 / 256 ≡ a.broken

-- So of every answer whose numbers are bytes, as those of the code's `Answer` are.
abbrev pub AnswerTakenApart : Type 0
AnswerTakenApart = (a : Answer) → a.byte < 256 → a.dropped < 256 → TakenApart a

-- The primary is the low byte, the secondary the high one: 255 says, as in a build, that there is none.
abbrev pub secondary_byte : Option SecondaryAddress → ℕ
secondary_byte None = 255
secondary_byte (Some s) = s.0

abbrev pub packed_name : Name → ℕ
packed_name n = n.address.0 + 256 * secondary_byte n.secondary

abbrev pub NameTakenApart : Type 0
NameTakenApart = (n : Name) → n.address.0 < 256
    → (packed_name n % 256 ≡ n.address.0) × (packed_name n / 256 ≡ secondary_byte n.secondary)
