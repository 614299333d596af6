-- How the code makes masks and reads them: one pass over the parties, from the last to the first, and what a call is
-- told by it.
-- Assumes nothing.
use Rattle.std.specs.Prelude.{ℕ, ◌+◌, ◌*◌, ◌-◌, ◌/◌, ◌%◌, ◌^◌, Bool, cond, List, ltb, eqb}
use Rattle.std.specs.Prelude.{Option, Some, None}
use Rattle.std.specs.Int.Count.{count_trailing_zeros}
use Rattle.party.specs.Parts.{one}
use Rattle.party.specs.Driving.{is_active, drives_dav, drives_nrfd, drives_ndac, drives_srq}
use Rattle.parties.specs.Types.{Place, Party, EachLine, Sweep, Scan}
use Rattle.parties.specs.Places.{place, at, talks}
use Rattle.parties.specs.Lines.{mask, has_driver}

-- What the pass over n parties finds.
abbrev pub sweep_of : ℕ → List Party → Sweep
sweep_of n ps = record {
  atn = mask n (λ i. is_active (at ps i));
  dav = mask n (λ i. drives_dav (at ps i));
  nrfd = mask n (λ i. drives_nrfd (at ps i));
  ndac = mask n (λ i. drives_ndac (at ps i));
  srq = mask n (λ i. drives_srq (at ps i));
  talk = mask n (λ i. talks (at ps i));
}

-- A mask of sixteen bits with one party more, below those that it has.
abbrev pub pushed : ℕ → Bool → ℕ
pushed m on = m * 2 % 65536 + one on

abbrev pub swept_by : Sweep → Party → Sweep
swept_by s p = record {
  atn = pushed s.atn (is_active p);
  dav = pushed s.dav (drives_dav p);
  nrfd = pushed s.nrfd (drives_nrfd p);
  ndac = pushed s.ndac (drives_ndac p);
  srq = pushed s.srq (drives_srq p);
  talk = pushed s.talk (talks p);
}

-- A mask without place i.
abbrev pub without : ℕ → ℕ → ℕ
without m i = cond (ltb i 15) (cond (eqb (m / 2 ^ i % 2) 1) (m - 2 ^ i) m) m

-- The lowest place of a mask.
abbrev pub first_of : ℕ → Option Place
first_of m = cond (eqb m 0) None (Some (place (count_trailing_zeros 16 m)))

-- What the party at place i is told.
abbrev pub told : Sweep → ℕ → Bool → Scan
told s i eoi = record {
  lines = record {
    atn = has_driver s.atn;
    dav = has_driver s.dav;
    nrfd = has_driver s.nrfd;
    ndac = has_driver s.ndac;
    eoi = eoi;
    srq = has_driver s.srq;
  };
  talker = first_of (without s.talk i);
}

-- The masks of all lines. That of EOI is its sender's, which no party's state decides.
abbrev pub masks_with : Sweep → ℕ → EachLine ℕ
masks_with s sender = record { atn = s.atn; dav = s.dav; nrfd = s.nrfd; ndac = s.ndac; eoi = sender; srq = s.srq }
