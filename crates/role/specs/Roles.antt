-- A role: a party's name, flags, mark and response; and what hearing a command does to them (document 01, "Hearing";
-- document 02, Q-3 and Q-8).
-- Assumes nothing.
use Rattle.std.specs.Prelude.{ℕ, ◌/◌, ◌%◌, Bool, false, true, not, cond, ◌&&◌, ltb, eqb, Option, Some, None}
use Rattle.message.specs.declared.Meaning.TheVariants.{Other, Listen, Unlisten, Talk, Untalk, Sdc, Get, Tct, Dcl, Spe}
use Rattle.message.specs.declared.Meaning.TheVariants.{Spd, Second, Neither, Ppc, Ppu}
use Rattle.names.specs.Names.{is_given}
use Rattle.role.specs.Types.{Name, Mark, Unmarked, Role, Address, SecondaryAddress, Meaning}
use Rattle.role.specs.Types.{TalkPrimary, ListenPrimary, Configuring, Response, Event}
use Rattle.role.specs.Types.ev

-- "All flags are off", no mark is set, and nobody has configured a response.
abbrev pub unaddressed : Name → Role
unaddressed n = record {
  name = n;
  talk = false;
  listen = false;
  poll = false;
  mark = Unmarked;
  response = None;
}

-- A role with talk and listen changed, with poll mode changed, with the mark changed, and with the response changed.
abbrev pub with_flags : Bool → Bool → Role → Role
with_flags t l r = record r { talk = t; listen = l }

abbrev pub with_poll_mode : Bool → Role → Role
with_poll_mode q r = record r { poll = q }

abbrev pub with_mark : Mark → Role → Role
with_mark m r = record r { mark = m }

abbrev pub with_response : Option Response → Role → Role
with_response x r = record r { response = x }

-- "talk, listen and poll mode off everywhere": an interface clear leaves the rest of a role.
abbrev pub flags_off : Role → Role
flags_off r = with_poll_mode false (with_flags false false r)

-- What attention, and so every interface clear, leaves of a mark: document 02, Q-3, clears talk primary and listen
-- primary; of Q-8's mark, "reset removes it".
abbrev pub without_address : Mark → Mark
without_address Unmarked = Unmarked
without_address TalkPrimary = Unmarked
without_address ListenPrimary = Unmarked
without_address Configuring = Configuring

-- The own primary, and the own secondary, which a party that was built with none has not.
abbrev pub owns : Address → Role → Bool
owns a r = eqb a.0 r.name.address.0

abbrev pub owns_secondary : SecondaryAddress → Role → Bool
owns_secondary s r = is_given s r.name.secondary

-- The mark that a talk or listen address sets, the own one or not. Document 02, Q-3: "For such a party the own talk
-- (listen) address only sets "talk primary" ("listen primary")."
abbrev pub mark_set : Option SecondaryAddress → Bool → Mark → Mark
mark_set None mine m = Unmarked
mark_set (Some s) mine m = cond mine m Unmarked

-- "PPC (05) heard while listening marks a party "configuring"" (document 02, Q-8). As any primary command it clears the
-- marks of Q-3.
abbrev pub configured_by : Bool → Mark → Mark
configured_by listen m = cond listen Configuring (without_address m)

-- The mark that hearing leaves. "00 to 5F are primary commands, 60 to 7E secondaries, 7F neither." "Each of the two
-- clears the other mark, any further primary command clears both": the mark outlasts a secondary, and 7F. Q-8: "any
-- other primary command unmarks it".
abbrev pub mark_after : Meaning → Role → Mark
mark_after Other r = Unmarked
mark_after (Listen a) r = mark_set r.name.secondary (owns a r) ListenPrimary
mark_after Unlisten r = Unmarked
mark_after (Talk a) r = mark_set r.name.secondary (owns a r) TalkPrimary
mark_after Untalk r = Unmarked
mark_after Sdc r = Unmarked
mark_after Get r = Unmarked
mark_after Tct r = Unmarked
mark_after Dcl r = Unmarked
mark_after Spe r = Unmarked
mark_after Spd r = Unmarked
mark_after (Second s) r = r.mark
mark_after Neither r = r.mark
mark_after Ppc r = configured_by r.listen r.mark
mark_after Ppu r = Unmarked

-- A primary address, the own one or not: "Own listen address: listen on, talk off." "Own talk address: talk on, listen
-- off. Another talk address ..: talk off." With a secondary the own one leaves both alone.
abbrev pub listen_addressed : Option SecondaryAddress → Bool → Role → Role
listen_addressed None mine r = cond mine (with_flags false true r) r
listen_addressed (Some s) mine r = r

abbrev pub talk_addressed : Option SecondaryAddress → Bool → Role → Role
talk_addressed None mine r = cond mine (with_flags true false r) (with_flags false r.listen r)
talk_addressed (Some s) mine r = cond mine r (with_flags false r.listen r)

-- A secondary, the own one or not: "The own secondary (60 + secondary) while talk primary turns talk on and listen
-- off; while listen primary it turns listen on and talk off. Any other secondary while talk primary turns talk off."
abbrev pub seconded : Mark → Bool → Role → Role
seconded Unmarked mine r = r
seconded TalkPrimary mine r = cond mine (with_flags true false r) (with_flags false r.listen r)
seconded ListenPrimary mine r = cond mine (with_flags false true r) r
-- "A secondary heard while configuring is not an address."
seconded Configuring mine r = r

-- The flags that hearing leaves. "UNL: listen off." ".. or UNT: talk off. SPE, SPD: poll mode on, off." "TCT does
-- nothing when heard".
abbrev pub addressed : Meaning → Role → Role
addressed Other r = r
addressed (Listen a) r = listen_addressed r.name.secondary (owns a r) r
addressed Unlisten r = with_flags r.talk false r
addressed (Talk a) r = talk_addressed r.name.secondary (owns a r) r
addressed Untalk r = with_flags false r.listen r
addressed Sdc r = r
addressed Get r = r
addressed Tct r = r
addressed Dcl r = r
addressed Spe r = with_poll_mode true r
addressed Spd r = with_poll_mode false r
addressed (Second s) r = seconded r.mark (owns_secondary s r) r
addressed Neither r = r
addressed Ppc r = r
addressed Ppu r = r

-- "60 to 6F (all hexadecimal) sets the response, with bit 8 as sense and the low three bits as line minus one; 70 to 7F
-- removes it." A secondary is the code without 60.
abbrev pub response_set : SecondaryAddress → Option Response
response_set s = cond (ltb s.0 16) (Some (record { sense = eqb (s.0 / 8) 1; line = s.0 % 8 })) None

-- "While configuring": what would be the response then, and with any other mark the response as it was.
abbrev pub configured : Mark → Option Response → Option Response → Option Response
configured Unmarked new x = x
configured TalkPrimary new x = x
configured ListenPrimary new x = x
configured Configuring new x = new

-- The response that hearing leaves. "PPU (15) removes it".
abbrev pub response_after : Meaning → Role → Option Response
response_after Other r = r.response
response_after (Listen a) r = r.response
response_after Unlisten r = r.response
response_after (Talk a) r = r.response
response_after Untalk r = r.response
response_after Sdc r = r.response
response_after Get r = r.response
response_after Tct r = r.response
response_after Dcl r = r.response
response_after Spe r = r.response
response_after Spd r = r.response
response_after (Second s) r = configured r.mark (response_set s) r.response
response_after Neither r = configured r.mark None r.response
response_after Ppc r = r.response
response_after Ppu r = None

-- The role that hearing leaves.
abbrev pub role_heard : Meaning → Role → Role
role_heard m r = with_response (response_after m r) (with_mark (mark_after m r) (addressed m r))

-- "a status equal to its sense"
abbrev pub agrees : Bool → Bool → Bool
agrees true sense = sense
agrees false sense = not sense

-- Does a party with this own status answer on line k, counted from 0: "some configured party on it has a status equal
-- to its sense".
abbrev pub answers_on : ℕ → Bool → Option Response → Bool
answers_on k status None = false
answers_on k status (Some r) = eqb k r.line && agrees status r.sense

-- The event of who hears, listening or not. "DCL, or SDC while listening: event clear. GET while listening: event
-- trigger."
abbrev pub hear_event : Meaning → Bool → Event
hear_event Other listen = ev.Heard
hear_event (Listen a) listen = ev.Heard
hear_event Unlisten listen = ev.Heard
hear_event (Talk a) listen = ev.Heard
hear_event Untalk listen = ev.Heard
hear_event Sdc listen = cond listen ev.Clear ev.Heard
hear_event Get listen = cond listen ev.Trigger ev.Heard
hear_event Tct listen = ev.Heard
hear_event Dcl listen = ev.Clear
hear_event Spe listen = ev.Heard
hear_event Spd listen = ev.Heard
hear_event (Second s) listen = ev.Heard
hear_event Neither listen = ev.Heard
hear_event Ppc listen = ev.Heard
hear_event Ppu listen = ev.Heard

-- "TCT ..; when it ends, control goes to the talk-on party other than the sender": the command that passes control.
abbrev pub passes_control : Meaning → Bool
passes_control Other = false
passes_control (Listen a) = false
passes_control Unlisten = false
passes_control (Talk a) = false
passes_control Untalk = false
passes_control Sdc = false
passes_control Get = false
passes_control Tct = true
passes_control Dcl = false
passes_control Spe = false
passes_control Spd = false
passes_control (Second s) = false
passes_control Neither = false
passes_control Ppc = false
passes_control Ppu = false
