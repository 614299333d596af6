-- Document 01's proved examples, P1 to P12: twelve rows, and one proposition that says that the machine answers as they
-- do. Rows.antt has their words.
-- Assumes nothing.
use Rattle.std.specs.Prelude.{ℕ, ◌≡◌, true, false, List, [], ◌∷◌, map}
use Rattle.parties.specs.Places.{place}
use Rattle.bus.specs.Types.{Call}
use Rattle.bus.specs.Types.ruling
use Rattle.bus.specs.Types.ev
use Rattle.bus.specs.Types.call_of
use Rattle.bus.specs.Types.act_of
use Rattle.bus.specs.Rows.{Report, Run, outcome, expected, ok, moved, says, loses, refused, step, write, read}
use Rattle.bus.specs.Rows.{listen_only, talk_only, clear, standby, run, not_built, sends}

-- "P1 the script above": its records 2 to 8, and 9 to 12.
abbrev taking : List (Call × Report) → List (Call × Report)
taking rest =
    (talk_only 0 1, ok)
    ∷ (listen_only 1 1, ok)
    ∷ (write 0 0x41 1, ok)
    ∷ (step 0, moved)
    ∷ (step 1, moved)
    ∷ (step 0, says ev.Data 0x41 true)
    ∷ (step 1, says ev.Took 0x41 true)
    ∷ rest

abbrev pub P1 : List Run
P1 =
    run (5 ∷ 6 ∷ []) (taking (
    (step 0, ok)
    ∷ (step 1, moved)
    ∷ (step 0, says ev.Ended 0x41 true)
    ∷ (read 1, says ev.Read 0x41 true)
    ∷ []))
    ∷ []

-- "P2 lines after record 8: 78 hexadecimal"
abbrev pub P2 : List Run
P2 = run (5 ∷ 6 ∷ []) (taking ((call_of.Lines, says ev.Lines 0x78 false) ∷ [])) ∷ []

-- "P3 joining under DAV: only the next byte is taken": party 2 joins while 41 stands, and takes 42.
abbrev pub P3 : List Run
P3 =
    run (5 ∷ 6 ∷ 7 ∷ []) (
    (talk_only 0 1, ok)
    ∷ (listen_only 1 1, ok)
    ∷ (write 0 0x41 0, ok)
    ∷ (step 1, moved)
    ∷ (step 0, moved)
    ∷ (step 0, says ev.Data 0x41 false)
    ∷ (listen_only 2 1, ok)
    ∷ (step 2, ok)
    ∷ (step 1, says ev.Took 0x41 false)
    ∷ (step 2, ok)
    ∷ (step 1, moved)
    ∷ (step 0, says ev.Ended 0x41 false)
    ∷ (step 2, moved)
    ∷ (step 2, moved)
    ∷ (read 2, refused ruling.Empty)
    ∷ (read 1, says ev.Read 0x41 false)
    ∷ (step 1, moved)
    ∷ (step 1, moved)
    ∷ (write 0 0x42 0, ok)
    ∷ (step 0, moved)
    ∷ (step 0, says ev.Data 0x42 false)
    ∷ (step 2, says ev.Took 0x42 false)
    ∷ (read 2, says ev.Read 0x42 false)
    ∷ [])
    ∷ []

-- "P4 off and on again after taking: no second take"
abbrev pub P4 : List Run
P4 =
    run (5 ∷ 6 ∷ []) (taking (
    (read 1, says ev.Read 0x41 true)
    ∷ (listen_only 1 0, ok)
    ∷ (listen_only 1 1, ok)
    ∷ (step 1, ok)
    ∷ (step 0, says ev.Ended 0x41 true)
    ∷ (step 1, moved)
    ∷ (step 1, moved)
    ∷ (step 1, ok)
    ∷ (read 1, refused ruling.Empty)
    ∷ []))
    ∷ []

-- "P5 one slow listener of two: not ended before both are in AWNS"
abbrev pub P5 : List Run
P5 =
    run (5 ∷ 6 ∷ 7 ∷ []) (
    (talk_only 0 1, ok)
    ∷ (listen_only 1 1, ok)
    ∷ (listen_only 2 1, ok)
    ∷ (write 0 0x41 0, ok)
    ∷ (step 1, moved)
    ∷ (step 2, moved)
    ∷ (step 0, moved)
    ∷ (step 0, says ev.Data 0x41 false)
    ∷ (step 1, says ev.Took 0x41 false)
    ∷ (step 1, moved)
    ∷ (step 0, ok)
    ∷ (step 2, says ev.Took 0x41 false)
    ∷ (step 0, ok)
    ∷ (step 2, moved)
    ∷ (step 0, says ev.Ended 0x41 false)
    ∷ [])
    ∷ []

-- "P6 control taken after one of two took: broken 1". Lines B0 afterwards: ATN, NDAC and NRFD, and DAV no more.
abbrev pub P6 : List Run
P6 =
    run (4 ∷ 5 ∷ 6 ∷ 7 ∷ []) (
    (clear 0, ok)
    ∷ (standby 0, ok)
    ∷ (talk_only 1 1, ok)
    ∷ (listen_only 2 1, ok)
    ∷ (listen_only 3 1, ok)
    ∷ (write 1 0x41 0, ok)
    ∷ (step 2, moved)
    ∷ (step 3, moved)
    ∷ (step 1, moved)
    ∷ (step 1, says ev.Data 0x41 false)
    ∷ (step 2, says ev.Took 0x41 false)
    ∷ (call_of.Of (place 0) act_of.TakeControl, loses 0 1)
    ∷ (call_of.Lines, says ev.Lines 0xb0 false)
    ∷ [])
    ∷ []

-- "P7 no listener: noacc", and since document 02's Q-2 "dropped 0". Stepped again the talker says noacc again; a
-- listener that joins then takes that byte.
abbrev pub P7 : List Run
P7 =
    run (5 ∷ 6 ∷ []) (
    (talk_only 0 1, ok)
    ∷ (write 0 0x41 1, ok)
    ∷ (step 0, moved)
    ∷ (step 0, says ev.Noacc 0x41 true)
    ∷ (step 0, says ev.Noacc 0x41 true)
    ∷ (listen_only 1 1, ok)
    ∷ (step 1, moved)
    ∷ (step 0, says ev.Data 0x41 true)
    ∷ (step 1, says ev.Took 0x41 true)
    ∷ [])
    ∷ []

-- "P8 address 30 built, 31 refused"
abbrev pub P8 : List Run
P8 = run (30 ∷ []) ((step 0, ok) ∷ []) ∷ not_built (31 ∷ []) ∷ []

-- "P9 15 parties built, 16 refused"
abbrev pub P9 : List Run
P9 =
    run (0 ∷ 1 ∷ 2 ∷ 3 ∷ 4 ∷ 5 ∷ 6 ∷ 7 ∷ 8 ∷ 9 ∷ 10 ∷ 11 ∷ 12 ∷ 13 ∷ 14 ∷ [])
    ((step 14, ok) ∷ (step 15, refused ruling.NoParty) ∷ [])
    ∷ not_built (0 ∷ 1 ∷ 2 ∷ 3 ∷ 4 ∷ 5 ∷ 6 ∷ 7 ∷ 8 ∷ 9 ∷ 10 ∷ 11 ∷ 12 ∷ 13 ∷ 14 ∷ 15 ∷ [])
    ∷ []

-- "P10 C5 is heard as talk address 5": party 1 talks, so that it may not listen.
abbrev pub P10 : List Run
P10 = run (4 ∷ 5 ∷ []) ((clear 0, ok) ∷ sends 0xc5 ((standby 0, ok) ∷ (listen_only 1 1, refused ruling.Role) ∷ [])) ∷ []

-- "P11 standby under a standing command: 7"
abbrev pub P11 : List Run
P11 =
    run (4 ∷ 5 ∷ []) (
    (clear 0, ok)
    ∷ (write 0 0x3f 0, ok)
    ∷ (step 1, moved)
    ∷ (step 0, moved)
    ∷ (step 0, says ev.Cmd 0x3f false)
    ∷ (standby 0, refused ruling.Standing)
    ∷ [])
    ∷ []

-- A serial poll of party 1 by party 0: lines before it (SRQ is 4), SPE, its talk address, and the status byte.
abbrev poll : ℕ → ℕ → ℕ → Run
poll register srq status =
    run (4 ∷ 5 ∷ []) (
    (call_of.Of (place 1) (act_of.PollRegister register), ok)
    ∷ (call_of.Lines, says ev.Lines srq false)
    ∷ (clear 0, ok)
    ∷ sends 0x18 (
    (step 1, moved)
    ∷ sends 0x45 (
    (standby 0, ok)
    ∷ (listen_only 0 1, ok)
    ∷ (step 0, moved)
    ∷ (step 1, moved)
    ∷ (step 1, says ev.Stat status false)
    ∷ (step 0, says ev.Took status false)
    ∷ [])))

-- "P12 poll register 41 (hexadecimal) polled from SRQS sends 41, register 01 polled from NPRS sends 01"
abbrev pub P12 : List Run
P12 = poll 0x41 4 0x41 ∷ poll 0x01 0 0x01 ∷ []

abbrev pub rows : List (List Run)
rows = P1 ∷ P2 ∷ P3 ∷ P4 ∷ P5 ∷ P6 ∷ P7 ∷ P8 ∷ P9 ∷ P10 ∷ P11 ∷ P12 ∷ []

-- Each row's runs answer as the row says.
abbrev pub Examples : Type 0
Examples = map (map outcome) rows ≡ map (map expected) rows
