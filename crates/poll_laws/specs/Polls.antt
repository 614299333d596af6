-- The parallel poll (document 02, Q-8, which is quoted): when it is refused, which lines are on, and that nobody sees
-- that it came. On every bus that a start, calls and runs lead to. Lines are counted from 0.
-- Assumes nothing.
use Rattle.std.specs.Prelude.{ℕ, ◌/◌, ◌%◌, ◌^◌, ◌<◌, ◌≡◌, Bool, false, cond, List, [], ◌∷◌, ltb, eqb, Some, Ok, Err}
use Rattle.party.specs.Parts.{one}
use Rattle.party.specs.Driving.{is_active}
use Rattle.effect.specs.Calls.{act_number}
use Rattle.effect.specs.Stands.{stands}
use Rattle.bus.specs.declared.Bus.{Bus}
use Rattle.bus.specs.declared.Answer.{Answer}
use Rattle.bus.specs.Types.{Place, Call, Verdict}
use Rattle.bus.specs.Types.ruling
use Rattle.bus.specs.Types.ev
use Rattle.bus.specs.Types.call_of
use Rattle.bus.specs.Types.act_of
use Rattle.bus.specs.Record.{here}
use Rattle.bus.specs.Machine as m
use Rattle.bus.specs.Delivery.{Moment, history, tally, is_put, is_end, is_host_put, wrote}
use Rattle.runner.specs.Lists.{LedTo}

abbrev pub poll_by : Place → Call
poll_by p = call_of.Of p act_of.ParallelPoll

-- "A poll by the active party with no byte standing answers"; "Refused: 4 for a party not active, then 7 for one with
-- its command standing", after 1. What stands while a party is active is its own command.
abbrev pub poll_refusal : Bus → ℕ → Verdict
poll_refusal b i = cond (ltb i b.count)
    (cond (is_active (here b i)) (cond (stands b.standing) (Err ruling.Standing) (Ok tt)) (Err ruling.Role))
    (Err ruling.NoParty)

abbrev pub RefusedAsSaid : Type 0
RefusedAsSaid = (b : Bus) → LedTo b → (p : Place) → (m.call b (poll_by p)).verdict ≡ poll_refusal b p.0

-- "some configured party on it has a status equal to its sense": party i, on line k.
abbrev pub AnswersOn : Bus → ℕ → ℕ → Type 0
AnswersOn b k i = (i < b.count)
    × ((here b i).role.response ≡ Some (record { sense = (here b i).latches.ist; line = k }))

-- "answers the eight lines as a byte, line 1 lowest, event lines, END 0: a line is on exactly when some configured
-- party on it has a status equal to its sense."
pub record Polled (b : Bus) (a : Answer) : Type 0 where
  pub event : a.event ≡ ev.Lines
  pub end : a.end ≡ false
  pub dropped : a.dropped ≡ 0
  pub broken : a.broken ≡ 0
  pub eight : a.byte < 256
  pub someone : (k : ℕ) → k < 8 → a.byte / 2 ^ k % 2 ≡ 1 → (i : ℕ) × AnswersOn b k i
  pub on : (k i : ℕ) → k < 8 → AnswersOn b k i → a.byte / 2 ^ k % 2 ≡ 1

abbrev pub LinesAnswered : Type 0
LinesAnswered = (b : Bus) → LedTo b → (p : Place) → (m.call b (poll_by p)).verdict ≡ Ok tt
    → Polled b (m.call b (poll_by p))

-- A poll changes nothing, accepted or refused.
abbrev pub PollLeaves : Type 0
PollLeaves = (b : Bus) → LedTo b → (p : Place) → (m.call b (poll_by p)).bus ≡ b

-- A list without its polls, and what the other calls of a list found and answered.
abbrev pub is_poll : Call → Bool
is_poll (call_of.Of p a) = eqb (act_number a) 20
is_poll call_of.Lines = false
is_poll call_of.Drivers = false

abbrev pub without_polls : List Call → List Call
without_polls [] = []
without_polls (c ∷ cs) = cond (is_poll c) (without_polls cs) (c ∷ without_polls cs)

abbrev pub others : List Moment → List Moment
others [] = []
others (x ∷ xs) = cond (is_poll x.call) (others xs) (x ∷ others xs)

-- Without its polls a list leads to the same bus, and every other call finds the same bus and has the same answer.
abbrev pub PollsUnseen : Type 0
PollsUnseen = (b : Bus) → LedTo b → (cs : List Call)
    → (m.run b cs ≡ m.run b (without_polls cs)) × (others (history b cs) ≡ history b (without_polls cs))

-- "Polls leave all totals unchanged." These are demand 3's: bytes put up, ended, broken off, accepted of the host, put
-- up without status bytes, dropped; what stands and what is held is the last bus's, which `PollsUnseen` has.
pub record SameTotals (b : Bus) (cs ds : List Call) : Type 0 where
  pub puts : tally (λ x. one (is_put x.answer.event)) (history b cs)
      ≡ tally (λ x. one (is_put x.answer.event)) (history b ds)
  pub ended : tally (λ x. one (is_end x.answer.event)) (history b cs)
      ≡ tally (λ x. one (is_end x.answer.event)) (history b ds)
  pub broken : tally (λ x. x.answer.broken) (history b cs) ≡ tally (λ x. x.answer.broken) (history b ds)
  pub written : tally (λ x. wrote x.call x.answer.verdict) (history b cs)
      ≡ tally (λ x. wrote x.call x.answer.verdict) (history b ds)
  pub host_puts : tally (λ x. one (is_host_put x.answer.event)) (history b cs)
      ≡ tally (λ x. one (is_host_put x.answer.event)) (history b ds)
  pub dropped : tally (λ x. x.answer.dropped) (history b cs) ≡ tally (λ x. x.answer.dropped) (history b ds)

abbrev pub TotalsUnchanged : Type 0
TotalsUnchanged = (b : Bus) → LedTo b → (cs : List Call) → SameTotals b cs (without_polls cs)
