-- The bus record, what stands on it, and building it (document 01, "The bus record").
-- Assumes nothing.
use Rattle.std.specs.Prelude.{ℕ, Bool, false, cond, List, [], length, Ok, Err, None}
use Rattle.parties.specs.Places.{place, at}
use Rattle.parties.specs.Lines.{lines_of}
use Rattle.addresses.specs.Addresses.{names, placed, bad_build}
use Rattle.effect.specs.Stands.{has_end}
use Rattle.bus.specs.Types.{Place, Name, Party, EachLine, Bus, Answer, Refusal, Verdict}
use Rattle.bus.specs.Types.ruling
use Rattle.bus.specs.Types.ev

-- The party at a place.
abbrev pub here : Bus → ℕ → Party
here b i = at b.parties i

abbrev pub lines : Bus → EachLine Bool
lines b = lines_of b.count b.parties (has_end b.standing)

-- "Build takes the addresses and the system party." Document 02, Q-3: "A party may be built with a secondary address
-- 0..30, or none."
abbrev pub built : List Name → Place → Bus
built xs s = record { parties = placed 15 xs; count = length xs; system = s; standing = None }

-- "the bus of no parties has system party 0"
abbrev pub no_parties : Bus
no_parties = built [] (place 0)

-- Event none, byte, END and counts 0, and this bus.
abbrev pub silent : Verdict → Bus → Answer
silent v b = record { verdict = v; event = ev.None; byte = 0; end = false; dropped = 0; broken = 0; bus = b }

-- "A refusal returns event none, byte, END and counts 0, and the bus is unchanged".
abbrev pub refuse : Refusal → Bus → Answer
refuse r b = silent (Err r) b

-- Accepted, with nothing to say.
abbrev pub accept : Bus → Answer
accept b = silent (Ok tt) b

-- "except that a refused build .. leaves the bus of no parties". An accepted one has event none; settling leaves a bus
-- just built as it is.
abbrev pub build_extended : List Name → Place → Answer
build_extended xs s = cond (bad_build xs s) (refuse ruling.BadBuild no_parties) (accept (built xs s))

-- A build of parties without secondaries.
abbrev pub build : List ℕ → Place → Answer
build xs s = build_extended (names xs []) s
