-- Who drives each line, and how many they are (document 02, Q-4): what holds of the answers, which
-- crates/bus/specs/Drivers.antt defines.
-- Assumes nothing.
use Rattle.std.specs.Prelude.{ℕ, ◌/◌, ◌%◌, ◌^◌, ◌≤◌, ◌<◌, ◌≡◌, Bool, false, ◌&&◌, ltb, Ok}
use Rattle.std.specs.Int.Count.{ones}
use Rattle.party.specs.Parts.{one}
use Rattle.parties.specs.Places.{within}
use Rattle.parties.specs.Lines.{has_driver}
use Rattle.bus.specs.declared.Bus.{Bus}
use Rattle.bus.specs.Types.ev
use Rattle.bus.specs.Types.call_of
use Rattle.bus.specs.Record.{lines, accept}
use Rattle.bus.specs.Machine as m
use Rattle.runner.specs.Lists.{LedTo}
use Rattle.bus.specs.Drivers.{Line, Atn, Dav, Nrfd, Ndac, Eoi, Srq, drives, mask_of, drivers_of}

-- "as the count of ones", on every bus.
abbrev pub CountOfOnes : Type 0
CountOfOnes = (l : Line) (b : Bus) → ones (mask_of l b) ≡ drivers_of l b

-- "one per party", party 0 lowest: bit k is 1 exactly where there is a party k that drives the line.
abbrev pub OnePerParty : Type 0
OnePerParty = (l : Line) (b : Bus) (k : ℕ) → mask_of l b / 2 ^ k % 2 ≡ one (ltb k (within b.count) && drives l b k)

-- Bit 15 is always 0, and there is none above it.
abbrev pub FifteenBits : Type 0
FifteenBits = (l : Line) (b : Bus) → mask_of l b < 2 ^ 15

-- The call is never refused, on any bus, and has event none.
abbrev pub NeverRefused : Type 0
NeverRefused = (b : Bus) → let a = m.call b call_of.Drivers in
    (a.verdict ≡ Ok tt) × (a.event ≡ ev.None) × (a.byte ≡ 0) × (a.end ≡ false) × (a.dropped ≡ 0)

-- It differs from the call of lines in what it says alone: the bus after it is the same.
abbrev pub LeavesAsLines : Type 0
LeavesAsLines = (b : Bus) → (m.call b call_of.Drivers).bus ≡ (m.call b call_of.Lines).bus

-- What the lines answer says of a line.
abbrev pub is_driven : Line → Bus → Bool
is_driven Atn b = (lines b).atn
is_driven Dav b = (lines b).dav
is_driven Nrfd b = (lines b).nrfd
is_driven Ndac b = (lines b).ndac
is_driven Eoi b = (lines b).eoi
is_driven Srq b = (lines b).srq

-- On every bus that a start, calls and runs lead to a line is on exactly where its mask is not 0.
abbrev pub OnWhereDriven : Type 0
OnWhereDriven = (b : Bus) → LedTo b → (l : Line) → is_driven l b ≡ has_driver (mask_of l b)

-- There the call changes nothing: it is accepted with event none, nothing is dropped or broken off, and the bus is as
-- it was.
abbrev pub ChangesNothing : Type 0
ChangesNothing = (b : Bus) → LedTo b → m.call b call_of.Drivers ≡ accept b

-- There nobody or one party drives ATN, and so DAV.
abbrev pub OneDriver : Type 0
OneDriver = (b : Bus) → LedTo b → (drivers_of Atn b ≤ 1) × (drivers_of Dav b ≤ 1)
