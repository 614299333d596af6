-- Which refusal a call meets (document 01, the table of refusals and its order: 1, values, then 4 to 9).
-- Assumes nothing.
use Rattle.std.specs.Prelude.{ℕ, Bool, true, false, cond, ◌&&◌, ltb, Ok, Err, is_some}
use Rattle.party.specs.Driving.{is_active}
use Rattle.refusals.specs.Types.{View, Control, Idle, Standby, Active, Act, Call, Verdict}
use Rattle.refusals.specs.Types.ruling
use Rattle.refusals.specs.Types.call_of
use Rattle.refusals.specs.Types.act_of
use Rattle.effect.specs.Calls.{is_on}
use Rattle.effect.specs.Stands.{sends}

-- "NOPARTY: no such party"
abbrev pub of_party : Bool → Verdict → Verdict
of_party known r = cond known r (Err ruling.NoParty)

-- "BADVALUE: .. switch or END not 0 or 1"
abbrev pub of_switch : ℕ → Verdict → Verdict
of_switch x r = cond (ltb 1 x) (Err ruling.BadValue) r

abbrev pub in_standby : Control → Bool
in_standby Idle = false
in_standby Standby = true
in_standby Active = false

-- "FULL: write with a byte held"
abbrev pub write_refusal : View → Verdict
write_refusal v = cond (is_some v.party.held) (Err ruling.Full) (Ok tt)

-- "ROLE: .. listen-only on while talk is on"
abbrev pub listen_refusal : Bool → Bool → Verdict
listen_refusal on talk = cond on (cond talk (Err ruling.Role) (Ok tt)) (Ok tt)

-- "ROLE: .. talk-only on while listen is on"; "ATTENTION: talk-only on under ATN"; "TALKER: talk-only on while
-- another's talk is on"
abbrev pub talk_refusal : Bool → View → Verdict
talk_refusal on v = cond on
    (cond v.party.role.listen (Err ruling.Role)
    (cond v.lines.atn (Err ruling.Attention)
    (cond (is_some v.talker) (Err ruling.Talker) (Ok tt))))
    (Ok tt)

-- "ROLE: .. go to standby not active"; "STANDING: go to standby .. by the sender of a standing command". A parallel
-- poll is refused alike: "4 for a party not active, then 7 for one with its command standing" (document 02, Q-8).
abbrev pub active_refusal : Bool → Bool → Verdict
active_refusal active sends = cond active (cond sends (Err ruling.Standing) (Ok tt)) (Err ruling.Role)

-- What a call of a party meets once it is there, or none.
abbrev pub own : View → Act → Verdict
own v act_of.Step = Ok tt
own v (act_of.Write x e) = of_switch e (write_refusal v)
-- "EMPTY: read with no data-in"
own v act_of.Read = cond (is_some v.party.input) (Ok tt) (Err ruling.Empty)
own v (act_of.PollRegister x) = Ok tt
own v (act_of.ListenOnly on) = of_switch on (listen_refusal (is_on on) v.party.role.talk)
own v (act_of.TalkOnly on) = of_switch on (talk_refusal (is_on on) v)
-- "ROLE: take control not in standby"
own v act_of.TakeControl = cond (in_standby v.party.control) (Ok tt) (Err ruling.Role)
own v act_of.GoToStandby = active_refusal (is_active v.party) (sends v)
-- "ROLE: .. clear not by system party"
own v act_of.InterfaceClear = cond v.chief (Ok tt) (Err ruling.Role)
-- "STANDING: .. reset by the sender of a standing command"
own v act_of.Reset = cond (sends v) (Err ruling.Standing) (Ok tt)
own v act_of.Drop = Ok tt
own v (act_of.SecondRequest on) = of_switch on (Ok tt)
own v (act_of.DataOut x) = write_refusal v
own v act_of.MarkEnd = Ok tt
own v act_of.BusStatus = Ok tt
own v act_of.DoNothing = Ok tt
-- "11 NOREG for any other offset or auxiliary code, after NOPARTY and before the rest" (document 02, Q-6)
own v act_of.NoRegister = Err ruling.NoReg
own v (act_of.OwnStatus on) = of_switch on (Ok tt)
own v act_of.ParallelPoll = active_refusal (is_active v.party) (sends v)

-- "Order: .. 1, values, then 4 to 9." Lines and drivers name no party, and meet nothing.
abbrev pub judge : View → Call → Verdict
judge v (call_of.Of i a) = of_party v.inside (own v a)
judge v call_of.Lines = Ok tt
judge v call_of.Drivers = Ok tt

-- Has a place a party? There are fifteen places.
abbrev pub is_inside : ℕ → ℕ → Bool
is_inside count i = ltb i 15 && ltb i count
