-- The acceptor step (document 01, "Acceptor step"): its effect, from what the party sees.
-- Assumes nothing.
use Rattle.std.specs.Prelude.{ℕ, Bool, not, cond, ◌||◌, Option, Some, None, is_some}
use Rattle.message.specs.Meaning.{meaning_of}
use Rattle.role.specs.Roles.{hear_event}
use Rattle.offer.specs.Offer.{byte}
use Rattle.party.specs.Parts.{with_acceptor, with_input}
use Rattle.party.specs.Sending.{party_heard}
use Rattle.acceptor_step.specs.Types.{Acceptor, Aids, Anrs, Acrs, Acds, Awns, Standing}
use Rattle.acceptor_step.specs.Types.{Effect, View}
use Rattle.acceptor_step.specs.Types.ev
use Rattle.effect.specs.Effects.{say, does, stay, moved}

-- "Taking with ATN false fills data-in"
abbrev pub fills : ℕ → Bool → View → Effect
fills x e v = does (say ev.Took x e 0) (with_acceptor Acds (with_input (Some (byte x e)) v.party)) v.standing

-- "with ATN true the byte is heard"
abbrev pub hears : ℕ → Bool → View → Effect
hears x e v = let p = v.party in
    does (say (hear_event (meaning_of x) p.role.listen) x e 0) (with_acceptor Acds (party_heard x p)) v.standing

-- "take and go to ACDS": what is taken is the byte that stands.
abbrev pub takes : Option Standing → View → Effect
takes None v = stay v
takes (Some b) v = cond v.lines.atn (hears b.value b.end v) (fills b.value b.end v)

-- "ANRS: to ACRS if ATN is true or data-in is empty."
abbrev pub readies : Bool → View → Effect
readies full v = cond (v.lines.atn || not full) (moved v (with_acceptor Acrs v.party)) (stay v)

-- "ACRS: if DAV, take and go to ACDS. ACDS: to AWNS. AWNS: to ANRS if DAV is false. AIDS: stay."
abbrev pub acceptor_in : Acceptor → View → Effect
acceptor_in Aids v = stay v
acceptor_in Anrs v = readies (is_some v.party.input) v
acceptor_in Acrs v = cond v.lines.dav (takes v.standing v) (stay v)
acceptor_in Acds v = moved v (with_acceptor Awns v.party)
acceptor_in Awns v = cond v.lines.dav (stay v) (moved v (with_acceptor Anrs v.party))

abbrev pub acceptor_step : View → Effect
acceptor_step v = acceptor_in v.party.acceptor v
