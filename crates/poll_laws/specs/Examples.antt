-- Proved examples of the parallel poll. crates/bus/specs/Rows.antt has the other words.
-- Assumes nothing.
use Rattle.std.specs.Prelude.{ℕ, ◌≡◌, false, List, [], ◌∷◌, ◌++◌, map, Some}
use Rattle.message.specs.Meaning.{address, secondary}
use Rattle.names.specs.Names.{plain}
use Rattle.parties.specs.Places.{place}
use Rattle.bus.specs.Types.{Call}
use Rattle.bus.specs.Types.ruling
use Rattle.bus.specs.Types.ev
use Rattle.bus.specs.Types.call_of
use Rattle.bus.specs.Types.act_of
use Rattle.bus.specs.Rows.{Report, Run, outcome, expected, ok, moved, says, refused, step, write, listen_only, clear}
use Rattle.bus.specs.Rows.{standby, run, run_of}
use Rattle.poll_laws.specs.Polls.{poll_by}

abbrev status : ℕ → ℕ → Call
status p on = call_of.Of (place p) (act_of.OwnStatus on)

abbrev reset : ℕ → Call
reset p = call_of.Of (place p) act_of.Reset

abbrev take_control : ℕ → Call
take_control p = call_of.Of (place p) act_of.TakeControl

-- A poll by the controller, party 0, finds these lines on.
abbrev polls : ℕ → List (Call × Report) → List (Call × Report)
polls lines rest = (poll_by (place 0), says ev.Lines lines false) ∷ rest

-- Party 0 sends a command, which these parties hear; their acceptors begin and end in ANRS.
abbrev steps_of : Report → List ℕ → List (Call × Report)
steps_of r ps = map (λ p. (step p, r)) ps

abbrev sends_to : List ℕ → ℕ → List (Call × Report) → List (Call × Report)
sends_to ps v rest =
    (write 0 v 0, ok)
    ∷ (steps_of moved ps ++ ((step 0, moved)
    ∷ (step 0, says ev.Cmd v false)
    ∷ (steps_of (says ev.Heard v false) ps ++ (steps_of moved ps ++ ((step 0, says ev.Ended v false)
    ∷ (steps_of moved ps ++ rest))))))

-- All commands one after the other.
abbrev sends_all : List ℕ → List ℕ → List (Call × Report) → List (Call × Report)
sends_all ps [] rest = rest
sends_all ps (v ∷ vs) rest = sends_to ps v (sends_all ps vs rest)

-- UNL, the listen address of who is meant, PPC, and what the response is to be.
abbrev configures : List ℕ → ℕ → ℕ → List (Call × Report) → List (Call × Report)
configures ps listen code rest = sends_all ps (0x3f ∷ listen ∷ 0x05 ∷ code ∷ []) rest

-- The controller at 4, and instruments at 5, 6 and 7.
abbrev three : List ℕ
three = 1 ∷ 2 ∷ 3 ∷ []

abbrev rack : List (Call × Report) → Run
rack calls = run (4 ∷ 5 ∷ 6 ∷ 7 ∷ []) ((clear 0, ok) ∷ calls)

-- Party 1 answers on line 1 at status 1, party 2 on line 8 at status 1, party 3 on line 3 at status 0.
abbrev configured : List (Call × Report) → Run
configured calls = rack (configures three 0x25 0x68 (configures three 0x26 0x6f (configures three 0x27 0x62 calls)))

-- Statuses change, and the lines with them. Two on one line: it is on as long as one of them agrees.
abbrev pub L1 : List Run
L1 =
    rack (polls 0x00 [])
    ∷ configured (
    polls 0x04 (
    (status 1 1, ok)
    ∷ polls 0x05 (
    (status 3 1, ok)
    ∷ (status 2 1, ok)
    ∷ polls 0x81 (
    (status 1 0, ok)
    ∷ polls 0x80 []))))
    ∷ rack (configures three 0x25 0x69 (configures three 0x26 0x69 (
    (status 1 1, ok)
    ∷ (status 2 1, ok)
    ∷ polls 0x02 (
    (status 1 0, ok)
    ∷ polls 0x02 (
    (status 2 0, ok)
    ∷ polls 0x00 [])))))
    ∷ []

-- Who loses the response: by 70 to 7F while configuring, of which 7F is no secondary; by PPU, listening or not. A
-- second 6x replaces the first, and after any other command 6x and 7x change nothing.
abbrev pub L2 : List Run
L2 =
    rack (configures three 0x25 0x60 (sends_all three (0x61 ∷ []) (
    polls 0x02 (sends_all three (0x70 ∷ []) (polls 0x00 [])))))
    ∷ rack (configures three 0x25 0x60 (polls 0x01 (sends_all three (0x7f ∷ []) (polls 0x00 []))))
    ∷ rack (configures three 0x25 0x60 (sends_all three (0x00 ∷ 0x61 ∷ 0x7f ∷ []) (polls 0x01 [])))
    ∷ rack (configures three 0x25 0x60 (configures three 0x26 0x61 (
    polls 0x03 (sends_all three (0x15 ∷ []) (polls 0x00 [])))))
    ∷ rack (sends_all three (0x05 ∷ 0x60 ∷ []) (polls 0x00 []))
    ∷ []

-- The controller at 4, and an instrument at 2/12.
abbrev one : List ℕ
one = 1 ∷ []

abbrev extended : List (Call × Report) → Run
extended calls = run_of
    (plain (address 4) ∷ record { address = address 2; secondary = Some (secondary 12) } ∷ [])
    ((clear 0, ok) ∷ calls)

-- A party with a secondary is configured once it listens. 6C is its own secondary: while configuring it sets line 5,
-- and does not turn talk on although the own talk address came before PPC. Who does not listen when PPC comes is not
-- marked, and 6C is no address then either, since PPC has taken its mark away.
abbrev pub L3 : List Run
L3 =
    extended (sends_all one (0x22 ∷ 0x6c ∷ 0x05 ∷ 0x63 ∷ []) (polls 0x08 []))
    ∷ extended (sends_all one (0x22 ∷ 0x6c ∷ 0x42 ∷ 0x05 ∷ 0x6c ∷ []) (
    (status 1 1, ok)
    ∷ polls 0x10 ((standby 0, ok) ∷ (listen_only 1 1, ok) ∷ [])))
    ∷ extended (sends_all one (0x42 ∷ 0x05 ∷ 0x6c ∷ []) (
    (status 1 1, ok)
    ∷ polls 0x00 ((standby 0, ok) ∷ (listen_only 1 1, ok) ∷ [])))
    ∷ []

-- A reset removes the response and the mark, and keeps the status.
abbrev pub L4 : List Run
L4 =
    rack (configures three 0x25 0x68 (
    (status 1 1, ok)
    ∷ polls 0x01 (
    (reset 1, ok)
    ∷ polls 0x00 (sends_all three (0x69 ∷ []) (polls 0x00 (configures three 0x25 0x6a (polls 0x04 []))))))
    )
    ∷ []

-- Interface clear and a change of control keep the response, the mark and the status.
abbrev pub L5 : List Run
L5 =
    configured (
    (status 1 1, ok)
    ∷ (clear 0, ok)
    ∷ polls 0x05 (
    (standby 0, ok)
    ∷ (take_control 0, ok)
    ∷ polls 0x05 (sends_all three (0x61 ∷ []) (polls 0x03 []))))
    ∷ []

-- The controller hears its own commands, and so configures itself too.
abbrev pub L6 : List Run
L6 =
    rack (configures three 0x24 0x69 (polls 0x00 ((status 0 1, ok) ∷ polls 0x02 [])))
    ∷ []

-- The refusals, in their order.
abbrev pub L7 : List Run
L7 =
    run (4 ∷ 5 ∷ []) (
    (poll_by (place 0), refused ruling.Role)
    ∷ (poll_by (place 2), refused ruling.NoParty)
    ∷ (status 2 2, refused ruling.NoParty)
    ∷ (status 1 2, refused ruling.BadValue)
    ∷ (clear 0, ok)
    ∷ (poll_by (place 1), refused ruling.Role)
    ∷ polls 0x00 (
    (write 0 0x3f 0, ok)
    ∷ (step 1, moved)
    ∷ (step 0, moved)
    ∷ (step 0, says ev.Cmd 0x3f false)
    ∷ (poll_by (place 0), refused ruling.Standing)
    ∷ (poll_by (place 1), refused ruling.Role)
    ∷ (status 0 1, ok)
    ∷ (step 1, says ev.Heard 0x3f false)
    ∷ (step 1, moved)
    ∷ (step 0, says ev.Ended 0x3f false)
    ∷ polls 0x00 []))
    ∷ []

abbrev pub rows : List (List Run)
rows = L1 ∷ L2 ∷ L3 ∷ L4 ∷ L5 ∷ L6 ∷ L7 ∷ []

-- Each row's runs answer as the row says.
abbrev pub PollExamples : Type 0
PollExamples = map (map outcome) rows ≡ map (map expected) rows
