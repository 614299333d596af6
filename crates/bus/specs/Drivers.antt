-- Who drives each line, and how many they are (document 02, Q-4): the call that answers it. crates/driver_laws/specs
-- has what holds of its answers.
-- Assumes nothing.
use Rattle.std.specs.Prelude.{ℕ, Bool}
use Rattle.party.specs.Driving.{is_active, drives_dav, drives_nrfd, drives_ndac, drives_srq}
use Rattle.parties.specs.Places.{within}
use Rattle.parties.specs.Lines.{mask, how_many}
use Rattle.effect.specs.Stands.{sends_end}
use Rattle.bus.specs.Types.{EachLine, Bus, Drivers}
use Rattle.bus.specs.Types.call_of
use Rattle.bus.specs.Record.{here}
use Rattle.bus.specs.Machine as m

pub data Line : Type 0 where
  Atn Dav Nrfd Ndac Eoi Srq : Line

-- Does the party at place i drive a line: "ATN: some party is active. DAV: some source in STRS. NRFD: some acceptor in
-- ANRS, ACDS or AWNS. NDAC: some acceptor in ANRS, ACRS or ACDS. .. SRQ: some service in SRQS." And "EOI is driven by
-- the sender of a standing byte with END".
abbrev pub drives : Line → Bus → ℕ → Bool
drives Atn b i = is_active (here b i)
drives Dav b i = drives_dav (here b i)
drives Nrfd b i = drives_nrfd (here b i)
drives Ndac b i = drives_ndac (here b i)
drives Eoi b i = sends_end i b.standing
drives Srq b i = drives_srq (here b i)

-- "hold the parties that drive a line as sixteen bits, one per party"
abbrev pub mask_of : Line → Bus → ℕ
mask_of l b = mask (within b.count) (drives l b)

-- "each line's number of drivers": counted over the parties.
abbrev pub drivers_of : Line → Bus → ℕ
drivers_of l b = how_many (within b.count) (drives l b)

abbrev pub masks : Bus → EachLine ℕ
masks b = record {
  atn = mask_of Atn b;
  dav = mask_of Dav b;
  nrfd = mask_of Nrfd b;
  ndac = mask_of Ndac b;
  eoi = mask_of Eoi b;
  srq = mask_of Srq b;
}

abbrev pub counts : Bus → EachLine ℕ
counts b = record {
  atn = drivers_of Atn b;
  dav = drivers_of Dav b;
  nrfd = drivers_of Nrfd b;
  ndac = drivers_of Ndac b;
  eoi = drivers_of Eoi b;
  srq = drivers_of Srq b;
}

-- "A new call answers each line's number of drivers", those of the bus as it finds it, with the masks, and what every
-- call answers.
abbrev pub drivers : Bus → Drivers
drivers b = record { masks = masks b; counts = counts b; answer = m.call b call_of.Drivers }
