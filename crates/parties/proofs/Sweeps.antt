-- What one pass over the parties tells a call, as the lists of parties have it.
-- Assumes nothing.
use mathlib.Core.Path.{◌≡◌, refl, sym, ap, ◌∙◌}
use mathlib.Core.Bool.{Bool, not, ◌&&◌}
use mathlib.Core.List.{List}
use Prim.Native.Nat.{ℕ, ◌-◌, ◌≤◌, ◌<◌}
use native.Mathlib.Omega.{arith}
use lib.ListN.{length, set, length-set}
use lib.Seq.{get_or-set_same, get_or-set_other}
use lib.Dec.{ltb, eqb}
use borrow.Author.Tests.{ltb-true, eqb-true, eqb-false}
use Rattle.party.specs.Parts.{idle}
use Rattle.party.specs.Driving.{is_active, drives_dav, drives_nrfd, drives_ndac, drives_srq}
use Rattle.role.proofs.Logic.{test, cond-elim}
use Rattle.parties.specs.Types.{Party, Sweep}
use Rattle.parties.specs.Places.{at, some, talks, other_talker, within}
use Rattle.parties.specs.Lines.{scan_of, bits, mask, has_driver}
use Rattle.parties.specs.Sweeping.{sweep_of, pushed, swept_by, without, first_of, told}
use Rattle.parties.proofs.Loops.{within_same, all_15, some_all, other_all}
use Rattle.parties.proofs.Bits.{seen_down, some_mask, first_mask, without_mask}

pub within_le : (n : ℕ) → within n ≤ 15
within_le n = cond-elim (λ (x : ℕ). x ≤ 15) (ltb n 15) (λ e. let l = ltb-true n 15 e in omega arith) (λ _. omega arith)

-- What is found from place k on.
abbrev pub swept_from : ℕ → ℕ → List Party → Sweep
swept_from k n ps = record {
  atn = bits k (n - k) (λ i. is_active (at ps i));
  dav = bits k (n - k) (λ i. drives_dav (at ps i));
  nrfd = bits k (n - k) (λ i. drives_nrfd (at ps i));
  ndac = bits k (n - k) (λ i. drives_ndac (at ps i));
  srq = bits k (n - k) (λ i. drives_srq (at ps i));
  talk = bits k (n - k) (λ i. talks (at ps i));
}

abbrev none : Sweep
none = record { atn = 0; dav = 0; nrfd = 0; ndac = 0; srq = 0; talk = 0 }

-- The laws of the loop: those of each mask.
pub swept_none : (n k : ℕ) (ps : List Party) → k ≡ n → none ≡ swept_from k n ps
swept_none n k ps e = let z : n - k ≡ 0 = omega arith in rw z refl

pub swept_down : (n k : ℕ) (ps : List Party) {s r : Sweep} → 0 < k → k ≤ n → n ≤ 15 → s ≡ swept_from k n ps
    → r ≡ swept_by s (at ps (k - 1)) → r ≡ swept_from (k - 1) n ps
swept_down n k ps h l v e d = d ∙ ap (λ (x : Sweep). swept_by x (at ps (k - 1))) e
    ∙ rw (go is_active, go drives_dav, go drives_nrfd, go drives_ndac, go drives_srq, go talks) refl
  where
    go : (f : Party → Bool) → pushed (bits k (n - k) (λ i. f (at ps i))) (f (at ps (k - 1))) ≡
        bits (k - 1) (n - (k - 1)) (λ i. f (at ps i))
    go f = seen_down n k (λ i. f (at ps i)) h l v refl

pub swept_all : (n k : ℕ) (ps : List Party) {s : Sweep} → k ≤ 0 → s ≡ swept_from k n ps → s ≡ sweep_of n ps
swept_all n k ps l e = let z : n - k ≡ n = omega arith in let y : k ≡ 0 = omega arith in e ∙ rw (z, y) refl

module _ (n : ℕ) (ps : List Party) (z : length ps ≡ 15) where
  -- a line is on where some party drives it
  pub line_on_lem : (f : Party → Bool) → has_driver (mask (within n) (λ i. f (at ps i))) ≡ some n f ps
  line_on_lem f = let w = within_le n in
      sym (some_mask (within n) f ps (omega arith))
      ∙ within_same (λ k. some k f ps) n (all_15 (λ k. some k f ps) n ps z (some_all n f ps))

  -- who talks beside the party at place i
  pub talker_found : (i : ℕ) → first_of (without (mask (within n) (λ j. talks (at ps j))) i) ≡ other_talker n i ps
  talker_found i = let w = within_le n in
      rw (without_mask (within n) i (λ j. talks (at ps j)) w)
      (sym (first_mask (within n) talks (set ps i idle) (λ j. not (eqb j i) && talks (at ps j)) w
      (rw (length-set ps i idle) (omega arith)) beside)
      ∙ within_same (λ k. other_talker k i ps) n (other_all i n ps z))
    where
      beside : (j : ℕ) → j < within n → (not (eqb j i) && talks (at ps j)) ≡ talks (at (set ps i idle) j)
      beside j l = test (eqb j i)
          (λ e. let w = within_le n in let q : j ≡ i = eqb-true j i e in
          rw (e, q, get_or-set_same ps i idle idle (omega arith)) refl)
          (λ e. rw (e, get_or-set_other ps i j idle idle (eqb-false j i e)) refl)

  pub told_scan : (i : ℕ) (eoi : Bool) → told (sweep_of (within n) ps) i eoi ≡ scan_of i n ps eoi
  told_scan i eoi = rw (
    line_on_lem is_active,
    line_on_lem drives_dav,
    line_on_lem drives_nrfd,
    line_on_lem drives_ndac,
    line_on_lem drives_srq,
    talker_found i,
  ) refl
