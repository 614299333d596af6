-- Proved examples of secondary addresses (document 02, Q-3). Rows.antt has their words.
-- Assumes nothing.
use Rattle.std.specs.Prelude.{ℕ, ◌≡◌, true, false, List, [], ◌∷◌, map}
use Rattle.message.specs.Meaning.{address, secondary}
use Rattle.names.specs.Names.{plain}
use Rattle.parties.specs.Places.{place}
use Rattle.bus.specs.Types.{Name, Event, Call}
use Rattle.bus.specs.Types.ruling
use Rattle.bus.specs.Types.ev
use Rattle.bus.specs.Types.call_of
use Rattle.bus.specs.Types.act_of
use Rattle.bus.specs.Rows.{Report, Run, outcome, expected, ok, moved, says, refused, step, write, listen_only}
use Rattle.bus.specs.Rows.{talk_only, clear, standby, run_of, not_built_of}
use Rattle.std.specs.Prelude.{Some}

abbrev at : ℕ → Name
at a = plain (address a)

-- Primary and secondary: 2/12 is at 2 12.
abbrev extended : ℕ → ℕ → Name
extended a s = record { address = address a; secondary = Some (secondary s) }

-- The rack: the controller at 4, and two instruments at one primary, 2/12 and 2/13.
abbrev rack : List (Call × Report) → Run
rack calls = run_of (at 4 ∷ extended 2 12 ∷ extended 2 13 ∷ []) ((clear 0, ok) ∷ calls)

-- Party 0 sends command v, which parties 1 and 2 hear with this event; their acceptors begin and end in ANRS.
abbrev sends_as : Event → ℕ → List (Call × Report) → List (Call × Report)
sends_as x v rest =
    (write 0 v 0, ok)
    ∷ (step 1, moved)
    ∷ (step 2, moved)
    ∷ (step 0, moved)
    ∷ (step 0, says ev.Cmd v false)
    ∷ (step 1, says x v false)
    ∷ (step 2, says x v false)
    ∷ (step 1, moved)
    ∷ (step 2, moved)
    ∷ (step 0, says ev.Ended v false)
    ∷ (step 1, moved)
    ∷ (step 2, moved)
    ∷ rest

abbrev sends : ℕ → List (Call × Report) → List (Call × Report)
sends v rest = sends_as ev.Heard v rest

-- Party p talks and party q does not: q may listen then, and takes what p sends. Nobody talks: both may listen.
abbrev talks : ℕ → ℕ → List (Call × Report)
talks p q =
    (standby 0, ok)
    ∷ (listen_only p 1, refused ruling.Role)
    ∷ (listen_only q 1, ok)
    ∷ (write p 0x41 1, ok)
    ∷ (step q, moved)
    ∷ (step p, moved)
    ∷ (step p, says ev.Data 0x41 true)
    ∷ (step q, says ev.Took 0x41 true)
    ∷ (step q, moved)
    ∷ (step p, says ev.Ended 0x41 true)
    ∷ []

abbrev nobody_talks : List (Call × Report)
nobody_talks = (standby 0, ok) ∷ (listen_only 1 1, ok) ∷ (listen_only 2 1, ok) ∷ []

-- Party 0 sends data, which party 2 takes, and party 1, which does not listen, has no part in.
abbrev only_second_listens : List (Call × Report)
only_second_listens =
    (standby 0, ok)
    ∷ (talk_only 0 1, ok)
    ∷ (write 0 0x41 0, ok)
    ∷ (step 1, ok)
    ∷ (step 2, moved)
    ∷ (step 0, moved)
    ∷ (step 0, says ev.Data 0x41 false)
    ∷ (step 1, ok)
    ∷ (step 2, says ev.Took 0x41 false)
    ∷ (step 2, moved)
    ∷ (step 0, says ev.Ended 0x41 false)
    ∷ []

-- Talk moved from 2/12 to 2/13: "The own secondary .. while talk primary turns talk on", "Any other secondary while
-- talk primary turns talk off", and the mark outlasts a secondary. A secondary that nobody has leaves no talker.
abbrev pub S1 : List Run
S1 =
    rack (sends 0x42 (sends 0x6c (talks 1 2)))
    ∷ rack (sends 0x42 (sends 0x6c (sends 0x6d (talks 2 1))))
    ∷ rack (sends 0x42 (sends 0x6c (sends 0x6e nobody_talks)))
    ∷ []

-- A listener addressed by two bytes. A wrong secondary while listen primary does nothing: 2/13 goes on listening.
abbrev pub S2 : List Run
S2 =
    rack (sends 0x22 (sends 0x6d only_second_listens))
    ∷ rack (sends 0x22 (sends 0x6d (sends 0x6e only_second_listens)))
    ∷ []

-- A primary alone addresses nobody: nobody talks after 42, and after 22 each of the two may talk, which a listener may
-- not.
abbrev pub S3 : List Run
S3 =
    rack (sends 0x42 nobody_talks)
    ∷ rack (sends 0x22 ((standby 0, ok) ∷ (talk_only 1 1, ok) ∷ (talk_only 1 0, ok) ∷ (talk_only 2 1, ok) ∷ []))
    ∷ []

-- A mark lost by a universal command between (14, DCL): the secondary that follows does nothing. 7F is none, and clears
-- nothing. A primary without a meaning (01) clears the mark as well, and so does the own listen address, which sets the
-- other.
abbrev pub S4 : List Run
S4 =
    rack (sends 0x42 (sends_as ev.Clear 0x14 (sends 0x6c nobody_talks)))
    ∷ rack (sends 0x42 (sends 0x6c (sends_as ev.Clear 0x14 (sends 0x6d (talks 1 2)))))
    ∷ rack (sends 0x42 (sends 0x7f (sends 0x6c (talks 1 2))))
    ∷ rack (sends 0x42 (sends 0x6c (sends 0x01 (sends 0x6d (talks 1 2)))))
    ∷ rack (sends 0x42 (sends 0x22 (sends 0x6d only_second_listens)))
    ∷ []

-- A mark lost by a change of which party is active, and by a reset of that party: 2/12 was reset, and 2/13 still waits.
abbrev pub S5 : List Run
S5 =
    rack (sends 0x42 ((standby 0, ok) ∷ (call_of.Of (place 0) act_of.TakeControl, ok) ∷ sends 0x6c nobody_talks))
    ∷ rack (sends 0x42 ((call_of.Of (place 1) act_of.Reset, ok) ∷ sends 0x6c nobody_talks))
    ∷ rack (sends 0x42 ((call_of.Of (place 1) act_of.Reset, ok) ∷ sends 0x6d (talks 2 1)))
    ∷ []

-- "Other talk addresses and UNT still clear talk", and the sender's own hearing counts: 4/7 in control addresses itself
-- by 44 67.
abbrev pub S6 : List Run
S6 =
    rack (sends 0x42 (sends 0x6c (sends 0x45 nobody_talks)))
    ∷ rack (sends 0x42 (sends 0x6c (sends 0x5f nobody_talks)))
    ∷ run_of (extended 4 7 ∷ extended 2 12 ∷ at 5 ∷ []) ((clear 0, ok) ∷ sends 0x44 (sends 0x67 (talks 0 1)))
    ∷ run_of (extended 4 7 ∷ extended 2 12 ∷ at 5 ∷ []) ((clear 0, ok) ∷ sends 0x44 nobody_talks)
    ∷ []

-- "A party may be built with a secondary address 0..30, or none. Two parties may share a primary only if both have
-- secondaries and these differ; otherwise, or with a secondary over 30, BADBUILD."
abbrev pub S7 : List Run
S7 =
    run_of (extended 2 30 ∷ extended 2 0 ∷ at 3 ∷ []) ((step 2, ok) ∷ [])
    ∷ not_built_of (extended 2 31 ∷ [])
    ∷ not_built_of (extended 2 12 ∷ extended 2 12 ∷ [])
    ∷ not_built_of (at 2 ∷ extended 2 12 ∷ [])
    ∷ not_built_of (extended 2 12 ∷ at 2 ∷ [])
    ∷ []

abbrev pub secondaries : List (List Run)
secondaries = S1 ∷ S2 ∷ S3 ∷ S4 ∷ S5 ∷ S6 ∷ S7 ∷ []

-- Each row's runs answer as the row says.
abbrev pub SecondaryExamples : Type 0
SecondaryExamples = map (map outcome) secondaries ≡ map (map expected) secondaries
