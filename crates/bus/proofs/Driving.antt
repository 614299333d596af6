-- The ones of a line's mask are as many as the parties that drive it.
-- Assumes nothing.
use mathlib.Core.Path.{◌≡◌}
use lib.Count.{ones}
use Rattle.parties.specs.Places.{within}
use Rattle.parties.specs.Lines.{counts_of}
use Rattle.parties.proofs.Bits.{ones_bits}
use Rattle.bus.specs.Types.{Bus}
use Rattle.bus.specs.Drivers.{Line, Atn, Dav, Nrfd, Ndac, Eoi, Srq, drives, mask_of, drivers_of, masks, counts}

pub count_of_ones : (l : Line) (b : Bus) → ones (mask_of l b) ≡ drivers_of l b
count_of_ones l b = ones_bits 0 (within b.count) (drives l b)

pub masks_counted : (b : Bus) → counts_of (masks b) ≡ counts b
masks_counted b =
    cc (
      count_of_ones Atn b,
      count_of_ones Dav b,
      count_of_ones Nrfd b,
      count_of_ones Ndac b,
      count_of_ones Eoi b,
      count_of_ones Srq b,
    )
