-- The lines of the bus, the lines answer, and who drives a line: as sixteen bits, and how many they are (document 02,
-- Q-4). And the lines of a parallel poll (Q-8).
-- Assumes nothing.
use Rattle.std.specs.Prelude.{ℕ, ◌+◌, zero, suc, ◌*◌, Bool, cond, not, List, eqb}
use Rattle.std.specs.Int.Count.{ones}
use Rattle.party.specs.Driving.{is_active, drives_dav, drives_nrfd, drives_ndac, drives_srq, answers_poll}
use Rattle.party.specs.Parts.{one}
use Rattle.parties.specs.Types.{Party, EachLine, Scan}
use Rattle.parties.specs.Places.{some, other_talker}

-- "ATN: some party is active. DAV: some source in STRS. NRFD: some acceptor in ANRS, ACDS or AWNS. NDAC: some acceptor
-- in ANRS, ACRS or ACDS. EOI: the standing byte has END. SRQ: some service in SRQS."
abbrev pub lines_of : ℕ → List Party → Bool → EachLine Bool
lines_of n ps eoi = record {
  atn = some n is_active ps;
  dav = some n drives_dav ps;
  nrfd = some n drives_nrfd ps;
  ndac = some n drives_ndac ps;
  eoi = eoi;
  srq = some n drives_srq ps;
}

-- What a call of the party at place i is told of the first n parties.
abbrev pub scan_of : ℕ → ℕ → List Party → Bool → Scan
scan_of i n ps eoi = record { lines = lines_of n ps eoi; talker = other_talker n i ps }

-- "The lines answer is ATN 128, DAV 64, NDAC 32, NRFD 16, EOI 8, SRQ 4".
abbrev pub weight : ℕ → Bool → ℕ
weight w on = cond on w 0

abbrev pub lines_byte : EachLine Bool → ℕ
lines_byte l = weight 128 l.atn + weight 64 l.dav + weight 32 l.ndac + weight 16 l.nrfd + weight 8 l.eoi
    + weight 4 l.srq

-- "hold the parties that drive a line as sixteen bits, one per party": of the d places from i on, those that f holds
-- of, with place i the lowest bit.
abbrev pub bits : ℕ → ℕ → (ℕ → Bool) → ℕ
bits i zero f = 0
bits i (suc d) f = one (f i) + 2 * bits (suc i) d f

-- Of n parties, party 0 lowest.
abbrev pub mask : ℕ → (ℕ → Bool) → ℕ
mask n f = bits 0 n f

-- "each line's number of drivers": of the d parties from place i on, the number of those that f holds of.
abbrev pub count_from : ℕ → ℕ → (ℕ → Bool) → ℕ
count_from i zero f = 0
count_from i (suc d) f = one (f i) + count_from (suc i) d f

abbrev pub how_many : ℕ → (ℕ → Bool) → ℕ
how_many n f = count_from 0 n f

-- A line is on exactly where its mask is not 0.
abbrev pub has_driver : ℕ → Bool
has_driver m = not (eqb m 0)

-- "as the count of ones"
abbrev pub counts_of : EachLine ℕ → EachLine ℕ
counts_of m = record {
  atn = ones m.atn;
  dav = ones m.dav;
  nrfd = ones m.nrfd;
  ndac = ones m.ndac;
  eoi = ones m.eoi;
  srq = ones m.srq;
}

-- "answers the eight lines as a byte, line 1 lowest ..: a line is on exactly when some configured party on it has a
-- status equal to its sense". Lines are counted from 0.
abbrev pub line_on : ℕ → List Party → ℕ → Bool
line_on n ps k = some n (answers_poll k) ps

abbrev pub poll_byte : ℕ → List Party → ℕ
poll_byte n ps = mask 8 (line_on n ps)
