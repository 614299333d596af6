-- The machine of document 01, from its front: what each call answers, and the bus after it, for every bus and every
-- call. docs/MACHINE.md tells it in words, in the order in which to read.
--
--   view_at      below           what a call sees of the bus, made once
--   verdict     below           which refusal a call meets, in document 01's order: `judge` in crates/refusals/specs
--   accepted    below           if it meets none: an effect on its party, and what follows on that
--     effect_of  crates/accepted/specs, over crates/source_step/specs, crates/acceptor_step/specs and
--               crates/host_calls/specs; their words in crates/effect/specs
--     follow    Settling.antt   settling, attention, control that goes on, interface clear
--   accessed    below           the call that an access to a register of the chip stands for: `stands_for` in
--               crates/registers/specs
--   build       Record.antt     the bus record, its lines, building; which addresses make a bus: crates/addresses/specs
--   one party   crates/party/specs (what it drives, hears, offers and settles to), over crates/role, crates/service and
--               crates/offer
--   parties     crates/parties/specs (some party, every party)
--   the table   crates/message/specs (what a command byte means)
--   numbers     crates/effect/specs/Calls.antt (of a refusal), crates/event/specs/Words.antt (an event's word)
-- Assumes nothing.
use Rattle.std.specs.Prelude.{Bool, List, [], ◌∷◌, eqb, cond}
use Rattle.parties.specs.Places.{other_talker}
use Rattle.effect.specs.Calls.{is_accepted, place_of}
use Rattle.refusals.specs.Refusals.{is_inside, judge}
use Rattle.registers.specs.declared.Access.{Access}
use Rattle.registers.specs.Registers.{stands_for}
use Rattle.accepted.specs.Accepted.{effect_of}
use Rattle.bus.specs.Types.{Place, EachLine, Bus, Answer, Call, Verdict, View}
use Rattle.bus.specs.Types.call_of
use Rattle.bus.specs.Record.{here, lines, silent}
use Rattle.bus.specs.Settling.{follow}

-- What a call of the party at place p sees of the bus, with the lines as it finds them.
abbrev pub view_at : Place → EachLine Bool → Bus → View
view_at p l b = record {
  lines = l;
  standing = b.standing;
  place = p;
  party = here b p.0;
  talker = other_talker b.count p.0 b.parties;
  inside = is_inside b.count p.0;
  chief = eqb p.0 b.system.0;
}

-- Which refusal a call meets, if any.
abbrev pub verdict : EachLine Bool → Bus → Call → Verdict
verdict l b c = judge (view_at (place_of c) l b) c

-- If it meets none: its effect on its party, and what follows on that.
abbrev pub accepted : EachLine Bool → Bus → Call → Answer
accepted l b c = follow l.atn b (place_of c).0 (effect_of (view_at (place_of c) l b) c)

-- A refused call leaves the bus as it found it.
abbrev pub judged : Verdict → Bus → Answer → Answer
judged v b a = cond (is_accepted v) a (silent v b)

-- A call reads the lines once.
abbrev pub call_in : EachLine Bool → Bus → Call → Answer
call_in l b c = judged (verdict l b c) b (accepted l b c)

abbrev pub call : Bus → Call → Answer
call b c = call_in (lines b) b c

-- An access to a register of the party at place p is the call of that party that it stands for (document 02, Q-6).
abbrev pub accessed : Bus → Place → Access → Answer
accessed b p a = call b (call_of.Of p (stands_for a))

-- The bus after a list of calls.
abbrev pub run : Bus → List Call → Bus
run b [] = b
run b (c ∷ cs) = run (call b c).bus cs
