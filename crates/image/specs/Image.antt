-- A bus as bytes: sixteen rows of twenty-four, the party at place k in row k, and the rest of the bus in row 15. Bytes
-- that no part has are 0. Writing goes by the cases of each part; reading takes every row as something, so that no
-- content is wrong.
-- Assumes nothing.
use Rattle.std.specs.Prelude.{ℕ, ◌≡◌, Bool, true, false, cond, List, [], ◌∷◌, ◌++◌, map, length, get_or, take, eqb}
use Rattle.std.specs.Prelude.{Option, Some, None, is_some}
use Rattle.message.specs.declared.SecondaryAddress.{SecondaryAddress}
use Rattle.message.specs.Meaning.{address, secondary}
use Rattle.offer.specs.Offer.{byte}
use Rattle.party.specs.Parts.{one}
use Rattle.parties.specs.Places.{place}
use Rattle.effect.specs.Stands.{sent, has_end}
use Rattle.image.specs.Types.{Mark, Unmarked, TalkPrimary, ListenPrimary, Configuring, Response, Role, Party}
use Rattle.image.specs.Types.{Control, Idle, Standby, Active, Source, Sids, Sgns, Sdys, Strs}
use Rattle.image.specs.Types.{Acceptor, Aids, Anrs, Acrs, Acds, Awns, Service, Nprs, Srqs, Aprs}
use Rattle.image.specs.Types.{Byte, Kind, Command, Data, Status, Standing, Bus}

-- The states by number, from 0 in the order of their declaration.
abbrev pub mark_number : Mark → ℕ
mark_number Unmarked = 0
mark_number TalkPrimary = 1
mark_number ListenPrimary = 2
mark_number Configuring = 3

abbrev pub control_number : Control → ℕ
control_number Idle = 0
control_number Standby = 1
control_number Active = 2

abbrev pub source_number : Source → ℕ
source_number Sids = 0
source_number Sgns = 1
source_number Sdys = 2
source_number Strs = 3

abbrev pub acceptor_number : Acceptor → ℕ
acceptor_number Aids = 0
acceptor_number Anrs = 1
acceptor_number Acrs = 2
acceptor_number Acds = 3
acceptor_number Awns = 4

abbrev pub service_number : Service → ℕ
service_number Nprs = 0
service_number Srqs = 1
service_number Aprs = 2

-- The kinds from 1, since 0 says that nothing stands.
abbrev pub kind_number : Kind → ℕ
kind_number Command = 1
kind_number Data = 2
kind_number Status = 3

-- A secondary is two bytes: whether there is one, and its number; zeros where there is none.
abbrev pub secondary_number : Option SecondaryAddress → ℕ
secondary_number None = 0
secondary_number (Some s) = s.0

-- A slot is three bytes: whether it is full, its byte, and its END; an empty one is zeros.
abbrev pub slot_value : Option Byte → ℕ
slot_value None = 0
slot_value (Some b) = b.value

abbrev pub slot_end : Option Byte → Bool
slot_end None = false
slot_end (Some b) = b.end

-- What stands is four bytes: its kind, its sender, its byte and its END; zeros where nothing does.
abbrev pub standing_tag : Option Standing → ℕ
standing_tag None = 0
standing_tag (Some b) = kind_number b.kind

abbrev pub standing_sender : Option Standing → ℕ
standing_sender None = 0
standing_sender (Some b) = b.sender.0

abbrev pub standing_value : Option Standing → ℕ
standing_value None = 0
standing_value (Some b) = b.value

-- A response is two bytes: 1 or 2, by its sense, and its line; zeros where there is none.
abbrev pub response_tag : Option Response → ℕ
response_tag None = 0
response_tag (Some r) = cond r.sense 2 1

abbrev pub response_line : Option Response → ℕ
response_line None = 0
response_line (Some r) = r.line

-- The row of a party.
abbrev pub row_of : Party → List ℕ
row_of p =
    p.role.name.address.0
    ∷ one p.role.talk
    ∷ one p.role.listen
    ∷ one p.role.poll
    ∷ control_number p.control
    ∷ source_number p.source
    ∷ acceptor_number p.acceptor
    ∷ one (is_some p.held)
    ∷ slot_value p.held
    ∷ one (slot_end p.held)
    ∷ one (is_some p.input)
    ∷ slot_value p.input
    ∷ one (slot_end p.input)
    ∷ p.request.live
    ∷ p.request.saved
    ∷ service_number p.request.service
    ∷ one (is_some p.role.name.secondary)
    ∷ secondary_number p.role.name.secondary
    ∷ mark_number p.role.mark
    ∷ one p.request.rsv2
    ∷ one p.latches.feoi
    ∷ response_tag p.role.response
    ∷ response_line p.role.response
    ∷ one p.latches.ist
    ∷ []

-- The last row: the number of parties, the system party, and what stands.
abbrev pub last_row : Bus → List ℕ
last_row b =
    b.count
    ∷ b.system.0
    ∷ standing_tag b.standing
    ∷ standing_sender b.standing
    ∷ standing_value b.standing
    ∷ one (has_end b.standing)
    ∷ 0 ∷ 0 ∷ 0 ∷ 0 ∷ 0 ∷ 0 ∷ 0 ∷ 0 ∷ 0 ∷ 0 ∷ 0 ∷ 0 ∷ 0 ∷ 0 ∷ 0 ∷ 0 ∷ 0 ∷ 0 ∷ []

unfoldable pub rows_of : Bus → List (List ℕ)
rows_of b = map row_of b.parties ++ (last_row b ∷ [])

-- A flag is on if its byte is 1.
abbrev pub flag : ℕ → Bool
flag n = eqb n 1

-- The state of a number; a number that no state has is read as the first state.
abbrev pub mark_of : ℕ → Mark
mark_of n = cond (eqb n 1) TalkPrimary (cond (eqb n 2) ListenPrimary (cond (eqb n 3) Configuring Unmarked))

abbrev pub control_of : ℕ → Control
control_of n = cond (eqb n 1) Standby (cond (eqb n 2) Active Idle)

abbrev pub source_of : ℕ → Source
source_of n = cond (eqb n 1) Sgns (cond (eqb n 2) Sdys (cond (eqb n 3) Strs Sids))

abbrev pub acceptor_of : ℕ → Acceptor
acceptor_of n = cond (eqb n 1) Anrs (cond (eqb n 2) Acrs (cond (eqb n 3) Acds (cond (eqb n 4) Awns Aids)))

abbrev pub service_of : ℕ → Service
service_of n = cond (eqb n 1) Srqs (cond (eqb n 2) Aprs Nprs)

-- There is a secondary if its flag is on.
abbrev pub secondary_of : ℕ → ℕ → Option SecondaryAddress
secondary_of given s = cond (flag given) (Some (secondary s)) None

-- A slot is full if its flag is on.
abbrev pub slot_of : ℕ → ℕ → ℕ → Option Byte
slot_of full v e = cond (flag full) (Some (byte v (flag e))) None

-- What stands is of the kind whose number is there, and nothing stands where no kind has it.
abbrev pub byte_of : Kind → ℕ → ℕ → ℕ → Option Standing
byte_of k s v e = Some (sent (place s) k v (flag e))

abbrev pub standing_of : ℕ → ℕ → ℕ → ℕ → Option Standing
standing_of tag s v e = cond (eqb tag 1) (byte_of Command s v e)
    (cond (eqb tag 2) (byte_of Data s v e) (cond (eqb tag 3) (byte_of Status s v e) None))

-- There is a response if its number has a sense.
abbrev pub response_of : ℕ → ℕ → Option Response
response_of tag line = cond (eqb tag 1) (Some (record { sense = false; line = line }))
    (cond (eqb tag 2) (Some (record { sense = true; line = line })) None)

abbrev pub byte_at : List ℕ → ℕ → ℕ
byte_at row k = get_or row k 0

abbrev pub role_of : List ℕ → Role
role_of r = record {
  name = record { address = address (byte_at r 0); secondary = secondary_of (byte_at r 16) (byte_at r 17) };
  talk = flag (byte_at r 1);
  listen = flag (byte_at r 2);
  poll = flag (byte_at r 3);
  mark = mark_of (byte_at r 18);
  response = response_of (byte_at r 21) (byte_at r 22);
}

abbrev pub party_of : List ℕ → Party
party_of r = record {
  role = role_of r;
  control = control_of (byte_at r 4);
  source = source_of (byte_at r 5);
  acceptor = acceptor_of (byte_at r 6);
  held = slot_of (byte_at r 7) (byte_at r 8) (byte_at r 9);
  input = slot_of (byte_at r 10) (byte_at r 11) (byte_at r 12);
  request = record {
    live = byte_at r 13;
    saved = byte_at r 14;
    rsv2 = flag (byte_at r 19);
    service = service_of (byte_at r 15);
  };
  latches = record { feoi = flag (byte_at r 20); ist = flag (byte_at r 23) };
}

-- The bus with these parties, and the rest from the last row.
abbrev pub bus_with : List Party → List ℕ → Bus
bus_with ps r = record {
  parties = ps;
  count = byte_at r 0;
  system = place (byte_at r 1);
  standing = standing_of (byte_at r 2) (byte_at r 3) (byte_at r 4) (byte_at r 5);
}

unfoldable pub bus_of : List (List ℕ) → Bus
bus_of rows = bus_with (map party_of (take 15 rows)) (get_or rows 15 [])

-- A bus that was written is read back as it was: any with fifteen places, as every value of the code's `Bus` has.
abbrev pub ReadBack : Type 0
ReadBack = (b : Bus) → length b.parties ≡ 15 → bus_of (rows_of b) ≡ b
