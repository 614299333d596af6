-- What was written is read back as it was.
-- Assumes nothing.
use mathlib.Core.Path.{◌≡◌, refl, ap, ◌∙◌}
use mathlib.Core.Bool.{Bool, true, false, cond}
use mathlib.Core.List.{List, [], ◌∷◌, map}
use lib.ListN.{length, length-map}
use lib.Seq.{take_at, get_or_at}
use Rattle.std.specs.Prelude.{Option, Some, None, is_some}
use Rattle.message.specs.declared.SecondaryAddress.{SecondaryAddress}
use Rattle.party.specs.Parts.{one}
use Rattle.offer.specs.Offer.{byte}
use Rattle.effect.specs.Stands.{has_end}
use Rattle.image.specs.Types.{Mark, Unmarked, TalkPrimary, ListenPrimary, Configuring, Response, Party}
use Rattle.image.specs.Types.{Control, Idle, Standby, Active, Source, Sids, Sgns, Sdys, Strs}
use Rattle.image.specs.Types.{Acceptor, Aids, Anrs, Acrs, Acds, Awns, Service, Nprs, Srqs, Aprs}
use Rattle.image.specs.Types.{Byte, Kind, Command, Data, Status, Standing}
use Rattle.image.specs.Image.{mark_number, secondary_number, control_number, source_number, acceptor_number}
use Rattle.image.specs.Image.{service_number, kind_number, slot_value, slot_end, standing_tag, standing_sender}
use Rattle.image.specs.Image.{standing_value, response_tag, response_line, row_of, last_row, rows_of}
use Rattle.image.specs.Image.{flag, mark_of, secondary_of, control_of, source_of, acceptor_of, service_of, slot_of}
use Rattle.image.specs.Image.{standing_of, response_of, party_of, bus_of, ReadBack}

flag_kept : (x : Bool) → flag (one x) ≡ x
flag_kept true = refl
flag_kept false = refl

mark_kept : (x : Mark) → mark_of (mark_number x) ≡ x
mark_kept Unmarked = refl
mark_kept TalkPrimary = refl
mark_kept ListenPrimary = refl
mark_kept Configuring = refl

secondary_kept : (x : Option SecondaryAddress) → secondary_of (one (is_some x)) (secondary_number x) ≡ x
secondary_kept None = refl
secondary_kept (Some s) = refl

control_kept : (x : Control) → control_of (control_number x) ≡ x
control_kept Idle = refl
control_kept Standby = refl
control_kept Active = refl

source_kept : (x : Source) → source_of (source_number x) ≡ x
source_kept Sids = refl
source_kept Sgns = refl
source_kept Sdys = refl
source_kept Strs = refl

acceptor_kept : (x : Acceptor) → acceptor_of (acceptor_number x) ≡ x
acceptor_kept Aids = refl
acceptor_kept Anrs = refl
acceptor_kept Acrs = refl
acceptor_kept Acds = refl
acceptor_kept Awns = refl

service_kept : (x : Service) → service_of (service_number x) ≡ x
service_kept Nprs = refl
service_kept Srqs = refl
service_kept Aprs = refl

slot_kept : (x : Option Byte) → slot_of (one (is_some x)) (slot_value x) (one (slot_end x)) ≡ x
slot_kept None = refl
slot_kept (Some b) = ap (λ e. Some (byte b.value e)) (flag_kept b.end)

response_kept : (x : Option Response) → response_of (response_tag x) (response_line x) ≡ x
response_kept None = refl
response_kept (Some r) = go r.sense
  where
    go : (s : Bool) → response_of (cond s 2 1) r.line ≡ Some (record r { sense = s })
    go true = refl
    go false = refl

standing_kept : (x : Option Standing)
    → standing_of (standing_tag x) (standing_sender x) (standing_value x) (one (has_end x)) ≡ x
standing_kept None = refl
standing_kept (Some st) = go st.kind ∙ ap (λ e. Some (record st { end = e })) (flag_kept st.end)
  where
    go : (k : Kind) → standing_of (kind_number k) st.sender.0 st.value (one st.end)
        ≡ Some (record st { kind = k; end = flag (one st.end) })
    go Command = refl
    go Data = refl
    go Status = refl

party_kept : (p : Party) → party_of (row_of p) ≡ p
party_kept p = rw (
  slot_kept p.held,
  slot_kept p.input,
  secondary_kept p.role.name.secondary,
  response_kept p.role.response,
)
    (simp (flag_kept, mark_kept, control_kept, source_kept, acceptor_kept, service_kept))

parties_kept : (ps : List Party) → map party_of (map row_of ps) ≡ ps
parties_kept [] = refl
parties_kept (p ∷ ps) = rw (party_kept p, parties_kept ps) refl

pub read_back : ReadBack
unfolding bus_of rows_of
read_back b z =
    let written : length (map row_of b.parties) ≡ 15 = length-map b.parties row_of ∙ z in
    rw (
      take_at (map row_of b.parties) (last_row b ∷ []) 15 written,
      get_or_at (map row_of b.parties) (last_row b) [] []
          15 written,
      parties_kept b.parties,
      standing_kept b.standing,
    ) refl
