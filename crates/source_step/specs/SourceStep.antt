-- The source step (document 01, "Source step"): its effect, from what the party sees.
-- Assumes nothing.
use Rattle.std.specs.Prelude.{ℕ, Bool, cond, Option, Some, None, is_some}
use Rattle.message.specs.Meaning.{meaning_of}
use Rattle.role.specs.Roles.{passes_control}
use Rattle.offer.specs.Offer.{kind_of, end_of, put_event}
use Rattle.party.specs.Parts.{with_source}
use Rattle.party.specs.Driving.{is_active}
use Rattle.party.specs.Sending.{party_heard, is_polled, offer, parted}
use Rattle.source_step.specs.Types.{Source, Sids, Sgns, Sdys, Strs, Byte, Kind, Place}
use Rattle.source_step.specs.Types.{Standing, After, Effect, View}
use Rattle.source_step.specs.Types.ev
use Rattle.source_step.specs.Types.after
use Rattle.effect.specs.Stands.{of_command, sent}
use Rattle.effect.specs.Effects.{say, does, stay, moved}

-- "put: to STRS, the byte stands". Document 02, Q-5: "Putting a status byte in APRS clears rsv2 in that same step",
-- which `parted` has.
abbrev pub put : Kind → ℕ → Bool → View → Effect
put k x e v = does (say (put_event k) x (end_of k e) 0) (parted k v.party) (Some (sent v.place k x (end_of k e)))

-- "noacc leaves the held byte in its register and the source in SDYS" (document 02, Q-2)
abbrev pub noacc : Kind → ℕ → Bool → View → Effect
noacc k x e v = does (say ev.Noacc x (end_of k e) 0) v.party v.standing

-- "SDYS: no byte on offer, to SGNS; else NRFD true, stay; else NDAC false, event noacc ..; else put"
abbrev pub ready : Option Byte → Kind → View → Effect
ready None k v = moved v (with_source Sgns v.party)
ready (Some b) k v = cond v.lines.nrfd (stay v)
    (cond v.lines.ndac (put k b.value b.end v) (noacc k b.value b.end v))

-- "TCT does nothing when heard; when it ends, control goes to the talk-on party other than the sender, if there is one"
abbrev pub pass_to : Bool → Option Place → After
pass_to passes None = after.Settle
pass_to passes (Some j) = cond passes (after.Pass j) after.Settle

-- "event ended, to SGNS, and a command is then heard by its own sender too"
abbrev pub ended_byte : Kind → ℕ → Bool → View → Effect
ended_byte k x e v = record {
  said = say ev.Ended x e 0;
  after = cond (of_command k) (pass_to (passes_control (meaning_of x)) v.talker) after.Settle;
  party = with_source Sgns (cond (of_command k) (party_heard x v.party) v.party);
  standing = None;
}

abbrev pub ended : Option Standing → View → Effect
ended None v = stay v
ended (Some b) v = ended_byte b.kind b.value b.end v

-- "SGNS: with a byte on offer .. to SDYS."
abbrev pub offering : Bool → View → Effect
offering full v = cond full (moved v (with_source Sdys v.party)) (stay v)

-- "STRS: NDAC false, event ended ..; else stay." Settling leaves no source in SIDS.
abbrev pub source_in : Source → Option Byte → Kind → View → Effect
source_in Sids o k v = stay v
source_in Sgns o k v = offering (is_some o) v
source_in Sdys o k v = ready o k v
source_in Strs o k v = cond v.lines.ndac (stay v) (ended v.standing v)

abbrev pub source_step : View → Effect
source_step v = let p = v.party in let polled = is_polled v.lines.atn p in
    source_in p.source (offer polled p) (kind_of (is_active p) polled) v
