-- What is the same in either order, and what is not: computed examples. crates/bus/specs/Rows.antt has the other words.
-- Assumes nothing.
use Rattle.std.specs.Prelude.{ℕ, ◌≡◌, true, false, List, [], ◌∷◌, ◌++◌, map}
use Rattle.parties.specs.Places.{place}
use Rattle.addresses.specs.Addresses.{names}
use Rattle.party.specs.Sending.{is_source}
use Rattle.bus.specs.declared.Bus.{Bus}
use Rattle.bus.specs.Types.{Call}
use Rattle.bus.specs.Types.ruling
use Rattle.bus.specs.Types.ev
use Rattle.bus.specs.Types.call_of
use Rattle.bus.specs.Record.{here, lines, build_extended}
use Rattle.bus.specs.Rows.{Report, Run, outcome, expected, ok, moved, says, refused, step, write, read}
use Rattle.bus.specs.Rows.{listen_only, talk_only, clear, sends, run}
use Rattle.bus.specs.Machine as m
use Rattle.runner.specs.Runner.{steps}
use Rattle.runner.specs.Lists.{LedTo}
use Rattle.order_laws.specs.Orders.{Swapped, NoSources, SameDumps}

-- A talker at 5 and loggers at 6 and 7. Party 1 is ready, 41 is on offer, and party 2 is not ready yet.
abbrev pub one_ready : List (Call × Report)
one_ready =
    (talk_only 0 1, ok)
    ∷ (listen_only 1 1, ok)
    ∷ (listen_only 2 1, ok)
    ∷ (write 0 0x41 0, ok)
    ∷ (step 1, moved)
    ∷ (step 0, moved)
    ∷ []

-- 41 is up, and both are ready to take it.
abbrev both_ready : List (Call × Report)
both_ready = one_ready ++ ((step 2, moved) ∷ (step 0, says ev.Data 0x41 false) ∷ [])

abbrev takes : ℕ → Call × Report
takes p = (step p, says ev.Took 0x41 false)

-- Both have taken it, and party 2 has not let go of NDAC.
abbrev both_took : List (Call × Report)
both_took = both_ready ++ (takes 1 ∷ takes 2 ∷ (step 1, moved) ∷ [])

-- The lines are these.
abbrev looks : ℕ → Call × Report
looks byte = (call_of.Lines, says ev.Lines byte false)

abbrev rack : List (Call × Report) → List (Call × Report) → Run
rack before turns = run (5 ∷ 6 ∷ 7 ∷ []) (before ++ turns)

-- The loggers take the byte and let it go in either order, and it ends and is read. NRFD (10) comes on with the first
-- to take it, and NDAC (20) goes off with the last to let go: no logger reads them.
abbrev ending : List (Call × Report)
ending =
    (step 0, says ev.Ended 0x41 false)
    ∷ (read 1, says ev.Read 0x41 false)
    ∷ (read 2, says ev.Read 0x41 false)
    ∷ []

abbrev in_turn : ℕ → ℕ → List (Call × Report)
in_turn p q =
    looks 0x60 ∷ takes p ∷ looks 0x70 ∷ takes q ∷ looks 0x70
    ∷ (step p, moved) ∷ looks 0x70 ∷ (step q, moved) ∷ looks 0x50 ∷ ending

abbrev pub O1 : List Run
O1 = rack both_ready (in_turn 1 2) ∷ rack both_ready (in_turn 2 1) ∷ []

-- A source is another matter, since it reads NRFD and NDAC. The byte goes up, or not, by who comes first, the talker or
-- the last logger to be ready; and it ends, or not, by who comes first, the talker or the last logger to let go.
abbrev pub O2 : List Run
O2 =
    rack one_ready ((step 2, moved) ∷ (step 0, says ev.Data 0x41 false) ∷ looks 0x60 ∷ [])
    ∷ rack one_ready ((step 0, ok) ∷ (step 2, moved) ∷ looks 0x20 ∷ [])
    ∷ rack both_took ((step 2, moved) ∷ (step 0, says ev.Ended 0x41 false) ∷ looks 0x10 ∷ [])
    ∷ rack both_took ((step 0, ok) ∷ (step 2, moved) ∷ looks 0x50 ∷ [])
    ∷ []

-- Two sources cannot be: there is one talker, and under ATN the controller alone sends.
abbrev pub O3 : List Run
O3 =
    rack one_ready (
    (talk_only 1 1, refused ruling.Role)
    ∷ (listen_only 1 0, ok)
    ∷ (talk_only 1 1, refused ruling.Talker)
    ∷ [])
    ∷ run (4 ∷ 5 ∷ []) ((clear 0, ok) ∷ (talk_only 1 1, refused ruling.Attention) ∷ sends 0x45 (
    (write 1 0x41 0, ok)
    ∷ (step 1, moved)
    ∷ (step 1, moved)
    ∷ (step 1, ok)
    ∷ []))
    ∷ []

-- A second turn of a party is not its first one again.
abbrev pub O4 : List Run
O4 = rack both_ready (takes 1 ∷ (step 1, moved) ∷ (step 1, ok) ∷ []) ∷ []

abbrev pub rows : List (List Run)
rows = O1 ∷ O2 ∷ O3 ∷ O4 ∷ []

-- The bus on which party 2 is not ready yet.
abbrev pub waiting : Bus
waiting = m.run (build_extended (names (5 ∷ 6 ∷ 7 ∷ []) []) (place 0)).bus (map (λ c. c.0) one_ready)

pub record OrderExamples : Type 0 where
  -- each row's runs answer as the row says
  pub answers : map (map outcome) rows ≡ map (map expected) rows
  -- There is such a bus, on which the talker is a source, and the loggers are none.
  pub led : LedTo waiting
  pub talker : is_source (lines waiting).atn (here waiting 0) ≡ true
  pub loggers : NoSources waiting (1 ∷ 2 ∷ 2 ∷ [])
  -- No premise is too many: a logger and the talker can't change places, and a logger's turn is not two of them.
  pub not_a_source : Swapped waiting 2 0 → ⊥
  pub not_twice : SameDumps waiting (steps (1 ∷ 2 ∷ [])) (steps (2 ∷ 1 ∷ 2 ∷ [])) → ⊥
