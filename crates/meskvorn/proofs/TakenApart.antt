-- What was packed is taken apart again, byte by byte.
-- Assumes nothing.
use mathlib.Core.Bool.{Bool, true, false}
use Prim.Native.Nat.{◌<◌}
use native.Mathlib.Omega.{arith}
use lib.Dec.{lit<}
use Rattle.party.specs.Parts.{one}
use Rattle.event.specs.declared.Event.{Event}
use Rattle.event.specs.declared.Event.TheVariants as ev
use Rattle.event.specs.Words.{event_number}
use Rattle.effect.specs.declared.Refusal.TheVariants as ruling
use Rattle.effect.specs.Calls.{verdict_number}
use Rattle.meskvorn.specs.Packing.{AnswerTakenApart, NameTakenApart}
use Rattle.std.specs.Prelude.{Ok, Err}
use Rattle.effect.specs.Types.{Verdict}

verdict_byte : (r : Verdict) → verdict_number r < 256
verdict_byte (Ok tt) = lit< tt
verdict_byte (Err ruling.NoParty) = lit< tt
verdict_byte (Err ruling.BadBuild) = lit< tt
verdict_byte (Err ruling.BadValue) = lit< tt
verdict_byte (Err ruling.Role) = lit< tt
verdict_byte (Err ruling.Attention) = lit< tt
verdict_byte (Err ruling.Talker) = lit< tt
verdict_byte (Err ruling.Standing) = lit< tt
verdict_byte (Err ruling.Full) = lit< tt
verdict_byte (Err ruling.Empty) = lit< tt
verdict_byte (Err ruling.Record) = lit< tt
verdict_byte (Err ruling.NoReg) = lit< tt

event_byte : (x : Event) → event_number x < 256
event_byte ev.None = lit< tt
event_byte ev.Moved = lit< tt
event_byte ev.Cmd = lit< tt
event_byte ev.Data = lit< tt
event_byte ev.Stat = lit< tt
event_byte ev.Took = lit< tt
event_byte ev.Heard = lit< tt
event_byte ev.Clear = lit< tt
event_byte ev.Trigger = lit< tt
event_byte ev.Ended = lit< tt
event_byte ev.Passed = lit< tt
event_byte ev.Noacc = lit< tt
event_byte ev.Read = lit< tt
event_byte ev.Lines = lit< tt

end_byte : (x : Bool) → one x < 256
end_byte true = lit< tt
end_byte false = lit< tt

pub answer_taken_apart : AnswerTakenApart
answer_taken_apart a lb ld =
    let lr = verdict_byte a.verdict in
    let lx = event_byte a.event in
    let le = end_byte a.end in
    record {
      refusal = omega arith;
      event = omega arith;
      byte = omega arith;
      end = omega arith;
      dropped = omega arith;
      broken = omega arith;
    }

pub name_taken_apart : NameTakenApart
name_taken_apart n l = (omega arith, omega arith)
