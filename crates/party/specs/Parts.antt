-- The idle party, and a party with one part changed.
-- Assumes nothing.
use Rattle.std.specs.Prelude.{ℕ, Bool, true, false, Option, None, is_some}
use Rattle.message.specs.Meaning.{address}
use Rattle.names.specs.Names.{plain}
use Rattle.role.specs.Roles.{unaddressed}
use Rattle.party.specs.Types.{Name, Role, Request, Party, Control, Source, Acceptor, Byte, Idle, Sids, Aids}
use Rattle.party.specs.Types.{Latches, Nprs}

-- "All flags are off, control idle, SIDS, AIDS, nothing held, poll registers 0, NPRS." No byte is marked (document 02,
-- Q-6), and the own status is "0 at build" (Q-8).
abbrev pub built_party : Name → Party
built_party n = record {
  role = unaddressed n;
  control = Idle;
  source = Sids;
  acceptor = Aids;
  held = None;
  input = None;
  request = record { live = 0; saved = 0; rsv2 = false; service = Nprs };
  latches = record { feoi = false; ist = false };
}

-- The idle party: "its address is 0".
abbrev pub idle : Party
idle = built_party (plain (address 0))

-- How many of one thing: 1 where the test holds, else 0.
abbrev pub one : Bool → ℕ
one true = 1
one false = 0

abbrev pub held_bytes : Party → ℕ
held_bytes p = one (is_some p.held)

-- A party with one part changed: each part once.
abbrev pub with_role : Role → Party → Party
with_role r p = record p { role = r }

abbrev pub with_control : Control → Party → Party
with_control c p = record p { control = c }

abbrev pub with_source : Source → Party → Party
with_source s p = record p { source = s }

abbrev pub with_acceptor : Acceptor → Party → Party
with_acceptor a p = record p { acceptor = a }

abbrev pub with_held : Option Byte → Party → Party
with_held s p = record p { held = s }

abbrev pub with_input : Option Byte → Party → Party
with_input s p = record p { input = s }

abbrev pub with_request : Request → Party → Party
with_request q p = record p { request = q }

abbrev pub with_latches : Latches → Party → Party
with_latches l p = record p { latches = l }

abbrev pub with_feoi : Bool → Latches → Latches
with_feoi on l = record l { feoi = on }

abbrev pub with_ist : Bool → Latches → Latches
with_ist on l = record l { ist = on }
