-- A call: the party that it names, its switch, and the numbers of acts and of refusals.
-- Assumes nothing.
use Rattle.std.specs.Prelude.{ℕ, Bool, eqb, Ok, Err, is_ok}
use Rattle.parties.specs.Places.{place}
use Rattle.effect.specs.Types.{Place, Call, Refusal, Verdict, Act}
use Rattle.effect.specs.Types.call_of
use Rattle.effect.specs.Types.ruling
use Rattle.effect.specs.Types.act_of

-- The party that a call names. Lines and drivers name none; they read and change nothing of the one here.
abbrev pub place_of : Call → Place
place_of (call_of.Of p a) = p
place_of call_of.Lines = place 0
place_of call_of.Drivers = place 0

abbrev pub is_on : ℕ → Bool
is_on x = eqb x 1

-- The table of refusals. Document 02, Q-6: 11 NOREG.
abbrev pub refusal_number : Refusal → ℕ
refusal_number ruling.NoParty = 1
refusal_number ruling.BadBuild = 2
refusal_number ruling.BadValue = 3
refusal_number ruling.Role = 4
refusal_number ruling.Attention = 5
refusal_number ruling.Talker = 6
refusal_number ruling.Standing = 7
refusal_number ruling.Full = 8
refusal_number ruling.Empty = 9
refusal_number ruling.Record = 10
refusal_number ruling.NoReg = 11

-- "0 is no refusal": what an accepted call is answered with.
abbrev pub verdict_number : Verdict → ℕ
verdict_number (Ok x) = 0
verdict_number (Err r) = refusal_number r

abbrev pub is_accepted : Verdict → Bool
is_accepted v = is_ok v

-- "Operations, decimal": those that name a party. Document 02, Q-5: 13 second request. From 14 on they are what the
-- chip's registers ask for (Q-6) and the calls of the parallel poll (Q-8), and no operation of a script.
abbrev pub act_number : Act → ℕ
act_number act_of.Step = 1
act_number (act_of.Write v e) = 2
act_number act_of.Read = 3
act_number (act_of.PollRegister v) = 4
act_number (act_of.ListenOnly on) = 5
act_number (act_of.TalkOnly on) = 6
act_number act_of.TakeControl = 7
act_number act_of.GoToStandby = 8
act_number act_of.InterfaceClear = 9
act_number act_of.Reset = 10
act_number act_of.Drop = 11
act_number (act_of.SecondRequest on) = 13
act_number (act_of.DataOut v) = 14
act_number act_of.MarkEnd = 15
act_number act_of.BusStatus = 16
act_number act_of.DoNothing = 17
act_number act_of.NoRegister = 18
act_number (act_of.OwnStatus on) = 19
act_number act_of.ParallelPoll = 20

-- The END or the switch of an act as it comes, and 0 for acts that have none.
abbrev pub switch_of : Act → ℕ
switch_of act_of.Step = 0
switch_of (act_of.Write x e) = e
switch_of act_of.Read = 0
switch_of (act_of.PollRegister x) = 0
switch_of (act_of.ListenOnly on) = on
switch_of (act_of.TalkOnly on) = on
switch_of act_of.TakeControl = 0
switch_of act_of.GoToStandby = 0
switch_of act_of.InterfaceClear = 0
switch_of act_of.Reset = 0
switch_of act_of.Drop = 0
switch_of (act_of.SecondRequest on) = on
switch_of (act_of.DataOut x) = 0
switch_of act_of.MarkEnd = 0
switch_of act_of.BusStatus = 0
switch_of act_of.DoNothing = 0
switch_of act_of.NoRegister = 0
switch_of (act_of.OwnStatus on) = on
switch_of act_of.ParallelPoll = 0
