-- The host's calls, once they are accepted (document 01, "The host's calls"): what each says, what follows, and its
-- party. None of them changes what stands.
-- Assumes nothing.
use Rattle.std.specs.Prelude.{ℕ, Bool, true, false, cond, Option, Some, None}
use Rattle.offer.specs.Offer.{byte}
use Rattle.party.specs.Parts.{held_bytes, with_role, with_acceptor, with_held, with_input, with_request}
use Rattle.party.specs.Parts.{with_latches, with_feoi, with_ist}
use Rattle.role.specs.Roles.{with_flags}
use Rattle.service.specs.Service.{with_saved, with_rsv2}
use Rattle.party.specs.Driving.{is_active}
use Rattle.party.specs.Settling.{wiped, cleared, change_control}
use Rattle.parties.specs.Lines.{lines_byte}
use Rattle.host_calls.specs.Types.{Request, Acceptor, Aids, Anrs, Awns, Control, Active, Byte, Party}
use Rattle.host_calls.specs.Types.{EachLine, Outcome, View}
use Rattle.host_calls.specs.Types.ev
use Rattle.host_calls.specs.Types.after
use Rattle.effect.specs.Effects.{say, then, quiet}

-- "Write data (byte, END): held."
abbrev pub write : ℕ → Bool → View → Outcome
write x e v = quiet 0 (with_held (Some (byte x e)) v.party)

-- The party with the mark for its next byte on or off.
abbrev pub marked_end : Bool → Party → Party
marked_end on p = with_latches (with_feoi on p.latches) p

-- "feoi marks the next byte whose write through offset 7 is accepted" (document 02, Q-6): that write, with END from the
-- mark, uses it up.
abbrev pub data_out : ℕ → View → Outcome
data_out x v = let p = v.party in quiet 0 (marked_end false (with_held (Some (byte x p.latches.feoi)) p))

abbrev pub mark_end : View → Outcome
mark_end v = quiet 0 (marked_end true v.party)

-- "The host sets each party's own status to 0 or 1" (document 02, Q-8).
abbrev pub own_status : Bool → View → Outcome
own_status on v = let p = v.party in quiet 0 (with_latches (with_ist on p.latches) p)

-- "Read data: gives data-in, empties it."
abbrev pub read_out : Option Byte → Party → Outcome
read_out None p = quiet 0 p
read_out (Some b) p = record { said = say ev.Read b.value b.end 0; after = after.Settle; party = with_input None p }

abbrev pub read : View → Outcome
read v = read_out v.party.input v.party

-- A call that writes of its party the request for service alone.
abbrev pub requested : Request → Party → Outcome
requested q p = quiet 0 (with_request q p)

-- "Poll register: sets saved."
abbrev pub poll_register : ℕ → View → Outcome
poll_register x v = let p = v.party in requested (with_saved x p.request) p

-- "A new host call switches it with 0 or 1." (document 02, Q-5)
abbrev pub second_request : Bool → View → Outcome
second_request on v = let p = v.party in requested (with_rsv2 on p.request) p

-- "the acceptor goes to AWNS when DAV is true, else ANRS"
abbrev pub joining : Bool → Acceptor
joining dav = cond dav Awns Anrs

-- "Listen-only on: if listen was off and ATN is false, the acceptor goes to AWNS when DAV is true, else ANRS; off: to
-- AIDS if ATN is false."
abbrev pub listen_acceptor : Bool → Bool → EachLine Bool → Acceptor → Acceptor
listen_acceptor on was l a = cond l.atn a (cond on (cond was a (joining l.dav)) Aids)

abbrev pub listen_only : Bool → View → Outcome
listen_only on v = let p = v.party in
    quiet 0 (with_role (with_flags p.role.talk on p.role)
    (with_acceptor (listen_acceptor on p.role.listen v.lines p.acceptor) p))

-- "Talk-only on, off: the flag."
abbrev pub talk_only : Bool → View → Outcome
talk_only on v = let p = v.party in quiet 0 (with_role (with_flags on p.role.listen p.role) p)

-- "Take control: standby to active. Go to standby: active to standby." Attention follows, and what is held is dropped.
abbrev pub controlled : Control → View → Outcome
controlled c v = then after.Attend (quiet (held_bytes v.party) (change_control c v.party))

-- "Drop: the held byte, if there is one, goes (dropped)."
abbrev pub drop_held : View → Outcome
drop_held v = quiet (held_bytes v.party) (with_held None v.party)

-- "then, unless it was active, AIDS if ATN is false, else AWNS when DAV is true, else ANRS"
abbrev pub reset_acceptor : EachLine Bool → Acceptor
reset_acceptor l = cond l.atn (joining l.dav) Aids

-- "Reset: flags off, control idle, held byte dropped, data-in emptied, poll register kept": attention follows if it was
-- active.
abbrev pub reset_as : Bool → View → Outcome
reset_as active v = let p = v.party in
    cond active (then after.Attend (quiet (held_bytes p) (wiped p)))
    (quiet (held_bytes p) (with_acceptor (reset_acceptor v.lines) (wiped p)))

abbrev pub reset : View → Outcome
reset v = reset_as (is_active v.party) v

-- "the system party active, its held byte dropped"; what is dropped in all is said when every party is cleared.
abbrev pub clear : View → Outcome
clear v = then after.Clear (quiet 0 (change_control Active (cleared v.party)))

-- "The event lines carries the lines answer with END 0".
abbrev pub tell : View → Outcome
tell v = record { said = say ev.Lines (lines_byte v.lines) false 0; after = after.Settle; party = v.party }

-- "A poll by the active party": which lines are on is said when every party has answered.
abbrev pub parallel_poll : View → Outcome
parallel_poll v = then after.Poll (quiet 0 v.party)
