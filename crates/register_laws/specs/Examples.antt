-- Proved examples of accesses to registers: a driver's life by registers alone, with the turns that its bus gives. The
-- numbers are those of document 001, tables 2-1 to 2-3; crates/bus/specs/Rows.antt has the other words.
-- Assumes nothing.
use Rattle.std.specs.Prelude.{ℕ, ◌≡◌, Bool, true, false, List, [], ◌∷◌, map}
use Rattle.parties.specs.Places.{place}
use Rattle.registers.specs.declared.Access.TheVariants.{Read, Write}
use Rattle.registers.specs.Registers.{stands_for}
use Rattle.bus.specs.Types.{Event, Call}
use Rattle.bus.specs.Types.ruling
use Rattle.bus.specs.Types.ev
use Rattle.bus.specs.Types.call_of
use Rattle.bus.specs.Types.act_of
use Rattle.bus.specs.Rows.{Report, Run, outcome, expected, ok, moved, says, loses, refused, step, write, run}

abbrev bus_status : ℕ → Call
bus_status p = call_of.Of (place p) (stands_for (Read 3))

abbrev data_in : ℕ → Call
data_in p = call_of.Of (place p) (stands_for (Read 7))

abbrev auxiliary : ℕ → ℕ → Call
auxiliary p v = call_of.Of (place p) (stands_for (Write 3 v))

abbrev serial_poll : ℕ → ℕ → Call
serial_poll p v = call_of.Of (place p) (stands_for (Write 5 v))

abbrev data_out : ℕ → ℕ → Call
data_out p v = call_of.Of (place p) (stands_for (Write 7 v))

-- The commands as a driver writes them, set where they have a switch.
abbrev swrst : ℕ
swrst = 0x80

abbrev nbaf : ℕ
nbaf = 0x05

abbrev feoi : ℕ
feoi = 0x08

abbrev lon : ℕ
lon = 0x89

abbrev ton : ℕ
ton = 0x8a

abbrev gts : ℕ
gts = 0x0b

abbrev tca : ℕ
tca = 0x0c

abbrev sic : ℕ
sic = 0x8f

abbrev rsv2 : ℕ
rsv2 = 0x98

-- Party 0 talks and party 1 listens.
abbrev addressed : List (Call × Report) → List (Call × Report)
addressed rest = (auxiliary 0 ton, ok) ∷ (auxiliary 1 lon, ok) ∷ rest

-- The byte that party 0 holds is put, taken, ended and read by party 1, which is ready for the next one then.
abbrev crosses : ℕ → Bool → List (Call × Report) → List (Call × Report)
crosses v e rest =
    (step 0, moved)
    ∷ (step 1, moved)
    ∷ (step 0, says ev.Data v e)
    ∷ (step 1, says ev.Took v e)
    ∷ (step 1, moved)
    ∷ (step 0, says ev.Ended v e)
    ∷ (data_in 1, says ev.Read v e)
    ∷ (step 1, moved)
    ∷ rest

-- Party 0 sends the command that it holds, which party 1 hears with this event.
abbrev commands : Event → ℕ → List (Call × Report) → List (Call × Report)
commands x v rest =
    (step 1, moved)
    ∷ (step 0, moved)
    ∷ (step 0, says ev.Cmd v false)
    ∷ (step 1, says x v false)
    ∷ (step 1, moved)
    ∷ (step 0, says ev.Ended v false)
    ∷ (step 1, moved)
    ∷ rest

-- Both chips are reset and released. Of two bytes the second, which comes after feoi, has END; what stands is seen by
-- bus status: DAV and NDAC, then EOI too.
abbrev pub A1 : List Run
A1 =
    run (5 ∷ 6 ∷ []) (
    (auxiliary 0 swrst, ok)
    ∷ (auxiliary 1 swrst, ok)
    ∷ (auxiliary 0 0x00, ok)
    ∷ (auxiliary 1 0x00, ok)
    ∷ addressed (
    (data_out 0 0x41, ok)
    ∷ (step 0, moved)
    ∷ (step 1, moved)
    ∷ (step 0, says ev.Data 0x41 false)
    ∷ (bus_status 1, says ev.Lines 0x60 false)
    ∷ (step 1, says ev.Took 0x41 false)
    ∷ (bus_status 0, says ev.Lines 0x70 false)
    ∷ (step 1, moved)
    ∷ (step 0, says ev.Ended 0x41 false)
    ∷ (data_in 1, says ev.Read 0x41 false)
    ∷ (auxiliary 0 feoi, ok)
    ∷ (data_out 0 0x42, ok)
    ∷ (step 1, moved)
    ∷ (step 1, moved)
    ∷ (step 0, moved)
    ∷ (step 0, says ev.Data 0x42 true)
    ∷ (bus_status 1, says ev.Lines 0x68 false)
    ∷ (step 1, says ev.Took 0x42 true)
    ∷ (data_in 1, says ev.Read 0x42 true)
    ∷ []))
    ∷ []

-- Who keeps the mark: a refused data out, the host's own write, nbaf, interface clear and the attention after it, a
-- reset that is refused. It is for one byte, however often feoi was written.
abbrev pub A2 : List Run
A2 =
    run (5 ∷ 6 ∷ []) (addressed (
    (auxiliary 0 feoi, ok)
    ∷ (write 0 0x41 0, ok)
    ∷ (data_out 0 0x42, refused ruling.Full)
    ∷ crosses 0x41 false ((data_out 0 0x42, ok) ∷ crosses 0x42 true ((data_out 0 0x43, ok) ∷ crosses 0x43 false []))))
    ∷ run (5 ∷ 6 ∷ []) (addressed (
    (auxiliary 0 feoi, ok)
    ∷ (write 0 0x41 0, ok)
    ∷ (auxiliary 0 nbaf, loses 1 0)
    ∷ (auxiliary 0 feoi, ok)
    ∷ (data_out 0 0x42, ok)
    ∷ crosses 0x42 true ((data_out 0 0x43, ok) ∷ crosses 0x43 false [])))
    ∷ run (5 ∷ 6 ∷ []) (
    (auxiliary 0 feoi, ok)
    ∷ (auxiliary 0 sic, ok)
    ∷ (auxiliary 0 gts, ok)
    ∷ addressed ((data_out 0 0x41, ok) ∷ crosses 0x41 true []))
    ∷ run (5 ∷ 6 ∷ []) (
    (auxiliary 0 sic, ok)
    ∷ (auxiliary 0 feoi, ok)
    ∷ (write 0 0x3f 0, ok)
    ∷ (step 1, moved)
    ∷ (step 0, moved)
    ∷ (step 0, says ev.Cmd 0x3f false)
    ∷ (auxiliary 0 swrst, refused ruling.Standing)
    ∷ (step 1, says ev.Heard 0x3f false)
    ∷ (step 1, moved)
    ∷ (step 0, says ev.Ended 0x3f false)
    ∷ (auxiliary 0 gts, ok)
    ∷ addressed ((data_out 0 0x41, ok) ∷ crosses 0x41 true []))
    ∷ []

-- Who takes it away: a command, which has no END, and a reset, the host's own as well as swrst.
abbrev pub A3 : List Run
A3 =
    run (5 ∷ 6 ∷ []) (
    (auxiliary 0 sic, ok)
    ∷ (auxiliary 0 feoi, ok)
    ∷ (data_out 0 0x14, ok)
    ∷ commands ev.Clear 0x14 (
    (auxiliary 0 gts, ok)
    ∷ addressed ((data_out 0 0x41, ok) ∷ crosses 0x41 false [])))
    ∷ run (5 ∷ 6 ∷ []) (
    (auxiliary 0 feoi, ok)
    ∷ (auxiliary 0 swrst, ok)
    ∷ addressed ((data_out 0 0x41, ok) ∷ crosses 0x41 false []))
    ∷ run (5 ∷ 6 ∷ []) (
    (auxiliary 0 feoi, ok)
    ∷ (call_of.Of (place 0) act_of.Reset, ok)
    ∷ addressed ((data_out 0 0x41, ok) ∷ crosses 0x41 false []))
    ∷ []

-- A serial poll: party 1 asks for service by rsv2, which bus status shows; party 0 clears the interface, sends SPE and
-- the talk address, goes to standby and reads the status byte, then takes control again.
abbrev pub A4 : List Run
A4 =
    run (4 ∷ 5 ∷ []) (
    (serial_poll 1 0x01, ok)
    ∷ (auxiliary 1 rsv2, ok)
    ∷ (bus_status 0, says ev.Lines 0x04 false)
    ∷ (auxiliary 0 sic, ok)
    ∷ (data_out 0 0x18, ok)
    ∷ commands ev.Heard 0x18 (
    (data_out 0 0x45, ok)
    ∷ commands ev.Heard 0x45 (
    (auxiliary 0 gts, ok)
    ∷ (auxiliary 0 lon, ok)
    ∷ (step 0, moved)
    ∷ (step 1, moved)
    ∷ (step 1, says ev.Stat 0x41 false)
    ∷ (step 0, says ev.Took 0x41 false)
    ∷ (data_in 0, says ev.Read 0x41 false)
    ∷ (step 0, moved)
    ∷ (step 1, says ev.Ended 0x41 false)
    ∷ (auxiliary 0 tca, ok)
    ∷ (bus_status 0, says ev.Lines 0xb0 false)
    ∷ [])))
    ∷ []

-- swrst in mid-byte: of the talker, whose byte is broken off; of the listener, who has taken it and loses it.
abbrev pub A5 : List Run
A5 =
    run (5 ∷ 6 ∷ []) (addressed (
    (data_out 0 0x41, ok)
    ∷ (step 0, moved)
    ∷ (step 1, moved)
    ∷ (step 0, says ev.Data 0x41 false)
    ∷ (auxiliary 0 swrst, loses 0 1)
    ∷ (bus_status 0, says ev.Lines 0x20 false)
    ∷ []))
    ∷ run (5 ∷ 6 ∷ []) (addressed (
    (data_out 0 0x41, ok)
    ∷ (step 0, moved)
    ∷ (step 1, moved)
    ∷ (step 0, says ev.Data 0x41 false)
    ∷ (step 1, says ev.Took 0x41 false)
    ∷ (auxiliary 1 swrst, ok)
    ∷ (step 0, says ev.Ended 0x41 false)
    ∷ (data_in 1, refused ruling.Empty)
    ∷ []))
    ∷ []

-- The refusals: NOPARTY, then NOREG for offsets and codes that are not carried, then those of the host's calls. Bits 32
-- and 64 of a command are not looked at; what is cleared does nothing.
abbrev pub A6 : List Run
A6 =
    run (5 ∷ 6 ∷ []) (
    (call_of.Of (place 2) (stands_for (Read 0)), refused ruling.NoParty)
    ∷ (bus_status 2, refused ruling.NoParty)
    ∷ (call_of.Of (place 0) (stands_for (Read 0)), refused ruling.NoReg)
    ∷ (call_of.Of (place 0) (stands_for (Read 5)), refused ruling.NoReg)
    ∷ (call_of.Of (place 0) (stands_for (Read 11)), refused ruling.NoReg)
    ∷ (call_of.Of (place 0) (stands_for (Write 6 0)), refused ruling.NoReg)
    ∷ (call_of.Of (place 0) (stands_for (Write 15 0)), refused ruling.NoReg)
    ∷ (auxiliary 0 0x01, refused ruling.NoReg)
    ∷ (auxiliary 0 0x8d, refused ruling.NoReg)
    ∷ (auxiliary 0 0xea, ok)
    ∷ (auxiliary 1 0xea, refused ruling.Talker)
    ∷ (auxiliary 0 0x6a, ok)
    ∷ (auxiliary 1 0xea, ok)
    ∷ (auxiliary 1 sic, refused ruling.Role)
    ∷ (auxiliary 1 0x0f, ok)
    ∷ (auxiliary 1 0x00, ok)
    ∷ (auxiliary 1 gts, refused ruling.Role)
    ∷ (auxiliary 1 tca, refused ruling.Role)
    ∷ (data_in 1, refused ruling.Empty)
    ∷ [])
    ∷ []

abbrev pub registers : List (List Run)
registers = A1 ∷ A2 ∷ A3 ∷ A4 ∷ A5 ∷ A6 ∷ []

-- Each row's runs answer as the row says.
abbrev pub RegisterExamples : Type 0
RegisterExamples = map (map outcome) registers ≡ map (map expected) registers
