-- Worked examples of the runner, computed from the definitions.
-- Assumes nothing.
use Rattle.std.specs.Prelude.{ℕ, ◌≡◌, true, List, [], ◌∷◌, ltb, replicate}
use Rattle.parties.specs.Places.{place}
use Rattle.bus.specs.declared.Bus.{Bus}
use Rattle.addresses.specs.Addresses.{names}
use Rattle.bus.specs.Record.{build, build_extended, no_parties}
use Rattle.bus.specs.Machine as m
use Rattle.bus.specs.Rows.{Report, report_of}
use Rattle.bus.specs.Types.{Name}
use Rattle.bus.specs.Types.ruling
use Rattle.bus.specs.Types.ev
use Rattle.bus.specs.Types.call_of
use Rattle.bus.specs.Types.act_of
use Rattle.runner.specs.declared.Given.{Given}
use Rattle.runner.specs.Waiting.{by_place, longest_waiting, turns}
use Rattle.runner.specs.Runner.{turns_of, give_turns}
use Rattle.runner.specs.Lists.{Item, call, led_by}
use Rattle.runner.specs.Ties.{by_address}
use Rattle.std.specs.Prelude.{Ok, Err}

-- Of document 01's script the calls before the first step: party 0 talks, party 1 listens, 41 with END is held.
abbrev before : List Item
before = call (call_of.Of (place 0) (act_of.TalkOnly 1)) ∷ call (call_of.Of (place 1) (act_of.ListenOnly 1)) ∷ call
    (call_of.Of (place 0) (act_of.Write 65 1)) ∷ []

abbrev pub after : List Item → Bus
after xs = led_by by_address (build (5 ∷ 6 ∷ []) (place 0)).bus xs

-- A run of so many turns on a bus just built: who has them.
abbrev turns_of_names : List Name → ℕ → List ℕ
turns_of_names names t = let b = (build_extended names (place 0)).bus in turns_of (by_address b) b t

abbrev given : ℕ → Given
given t = give_turns (by_address (after before)) (after before) t

abbrev 41_is_read : Report
41_is_read = record { verdict = Ok tt; event = ev.Read; byte = 65; end = true; dropped = 0; broken = 0 }

pub record Examples : Type 0 where
  -- the longest waiting, and of two that have waited equally long the lower place
  pub longest : longest_waiting by_place (2 ∷ 0 ∷ 5 ∷ 5 ∷ 1 ∷ []) ≡ 2
  pub by_number : turns by_place 3 7 ≡ (0 ∷ 1 ∷ 2 ∷ 0 ∷ 1 ∷ 2 ∷ 0 ∷ [])
  -- with ties to the highest place
  pub from_the_top : turns (λ x y. ltb y x) 3 7 ≡ (2 ∷ 1 ∷ 0 ∷ 2 ∷ 1 ∷ 0 ∷ 2 ∷ [])
  -- "the lowest primary address, then the lowest secondary": the parties at 9, 3 and 6; those at 5/9, 5/2 and 4; and
  -- one of each secondary, where the primaries decide
  pub by_primary : turns_of_names (names (9 ∷ 3 ∷ 6 ∷ []) []) 4 ≡ (1 ∷ 2 ∷ 0 ∷ 1 ∷ [])
  pub by_secondary : turns_of_names (names (5 ∷ 5 ∷ 4 ∷ []) (9 ∷ 2 ∷ 255 ∷ [])) 4 ≡ (2 ∷ 1 ∷ 0 ∷ 2 ∷ [])
  pub primary_first : turns_of_names (names (7 ∷ 6 ∷ []) (0 ∷ 30 ∷ [])) 3 ≡ (1 ∷ 0 ∷ 1 ∷ [])
  -- document 01's script with its seven steps as a run of seven turns: the byte has ended, and 41 is read
  pub script : (given 7).counts ≡ (4 ∷ 3 ∷ replicate 13 0)
  pub script_ends : report_of (m.call (given 7).bus (call_of.Of (place 1) act_of.Read)) ≡ 41_is_read
  -- "a bus of no parties is refused with 1, all counts 0"
  pub nobody : give_turns (by_address no_parties) no_parties 65535
      ≡ record { verdict = Err ruling.NoParty; counts = replicate 15 0; bus = no_parties }
