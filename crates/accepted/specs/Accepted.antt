-- What each call does to its own party and to what stands, once it is accepted: a step (document 01, "A step of party
-- p") or a call of the host.
-- Assumes nothing.
use Rattle.std.specs.Prelude.{cond}
use Rattle.party.specs.Sending.{is_source}
use Rattle.source_step.specs.SourceStep.{source_step}
use Rattle.acceptor_step.specs.AcceptorStep.{acceptor_step}
use Rattle.accepted.specs.Types.{Standby, Active, View, Act, Call, Effect}
use Rattle.accepted.specs.Types.call_of
use Rattle.accepted.specs.Types.act_of
use Rattle.effect.specs.Calls.{is_on}
use Rattle.effect.specs.Effects.{stay, with_standing}
use Rattle.host_calls.specs.HostCalls.{write, read, poll_register, second_request, listen_only, talk_only, controlled}
use Rattle.host_calls.specs.HostCalls.{drop_held, reset, clear, tell, data_out, mark_end, own_status}
use Rattle.host_calls.specs.HostCalls.{parallel_poll}

-- "A source takes the source step, any other party the acceptor step."
abbrev pub step : View → Effect
step v = cond (is_source v.lines.atn v.party) (source_step v) (acceptor_step v)

-- What an accepted act does. What stands changes by a step alone.
abbrev pub acted : View → Act → Effect
acted v act_of.Step = step v
acted v (act_of.Write x e) = with_standing v.standing (write x (is_on e) v)
acted v act_of.Read = with_standing v.standing (read v)
acted v (act_of.PollRegister x) = with_standing v.standing (poll_register x v)
acted v (act_of.ListenOnly on) = with_standing v.standing (listen_only (is_on on) v)
acted v (act_of.TalkOnly on) = with_standing v.standing (talk_only (is_on on) v)
acted v act_of.TakeControl = with_standing v.standing (controlled Active v)
acted v act_of.GoToStandby = with_standing v.standing (controlled Standby v)
acted v act_of.InterfaceClear = with_standing v.standing (clear v)
acted v act_of.Reset = with_standing v.standing (reset v)
acted v act_of.Drop = with_standing v.standing (drop_held v)
acted v (act_of.SecondRequest on) = with_standing v.standing (second_request (is_on on) v)
acted v (act_of.DataOut x) = with_standing v.standing (data_out x v)
acted v act_of.MarkEnd = with_standing v.standing (mark_end v)
acted v act_of.BusStatus = with_standing v.standing (tell v)
-- "swrst cleared and sic cleared do nothing" (document 02, Q-6).
acted v act_of.DoNothing = stay v
-- Never accepted.
acted v act_of.NoRegister = stay v
acted v (act_of.OwnStatus on) = with_standing v.standing (own_status (is_on on) v)
acted v act_of.ParallelPoll = with_standing v.standing (parallel_poll v)

abbrev pub effect_of : View → Call → Effect
effect_of v (call_of.Of i a) = acted v a
effect_of v call_of.Lines = with_standing v.standing (tell v)
-- Document 02, Q-4: who drives the lines is told beside the answer (crates/bus/specs/Drivers.antt), which has event
-- none.
effect_of v call_of.Drivers = stay v
