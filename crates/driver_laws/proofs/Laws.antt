-- Who drives each line: the counts are those of the parties, and the bits one a party. On every bus that calls lead to
-- a line is on where it is driven, and ATN and DAV are driven by one party at the most.
-- Assumes nothing.
use mathlib.Core.Path.{◌≡◌, refl, sym, ap, ◌∙◌}
use mathlib.Core.Bool.{Bool, true, false, not, cond, ◌&&◌}
use Prim.Native.Nat.{ℕ, ◌^◌, ◌≤◌, ◌<◌}
use native.Mathlib.Omega.{arith}
use native.Mathlib.Nat.{zero-add, lt_of_lt_of_le}
use lib.Dec.{ltb, eqb}
use lib.Seq.{set-get_or}
use lib.Pow.{pow_pos, pow_mono}
use borrow.Author.Tests.{ltb-true, ltb-false, lt-ltb, ne_eqb, eq-eqb}
use Rattle.std.specs.Prelude.{Option, Some, None}
use Rattle.party.specs.Parts.{idle, one}
use Rattle.party.specs.Driving.{is_active, drives_dav, drives_nrfd, drives_ndac, drives_srq}
use Rattle.role.proofs.Logic.{no, test}
use Rattle.party.specs.Settling.{settled}
use Rattle.parties.specs.Places.{within}
use Rattle.parties.proofs.Places.{each_still}
use Rattle.parties.specs.Lines.{mask, has_driver}
use Rattle.parties.proofs.Loops.{within_same}
use Rattle.parties.proofs.Bits.{bits_lt, bit_at, bits_none, bit_alone, one_counted}
use Rattle.parties.proofs.Sweeps.{within_le, line_on_lem}
use Rattle.effect.specs.Stands.{has_end, sends_end}
use Rattle.effect.specs.Effects.{say, does}
use Rattle.bus.specs.declared.Bus.{Bus}
use Rattle.bus.specs.Types.{Party, Standing, Said}
use Rattle.bus.specs.Types.ev
use Rattle.bus.specs.Record.{here}
use Rattle.bus.specs.Settling.{deserted, answered, settle}
use Rattle.bus.specs.Drivers.{Line, Atn, Dav, Nrfd, Ndac, Eoi, Srq, drives, mask_of}
use Rattle.bus.proofs.Invariant.{Inv, sent_by, atn_of, is_active_lem, is_strs}
use Rattle.bus.proofs.Theorem.{one_dav_lem, one_atn_lem}
use Rattle.bus.proofs.Reached.{sender_is_source}
use Rattle.bus.proofs.Driving as driving
use Rattle.runner.proofs.Led.{led_inv}
use Rattle.driver_laws.specs.Laws.{is_driven, CountOfOnes, OnePerParty, FifteenBits, NeverRefused, LeavesAsLines}
use Rattle.driver_laws.specs.Laws.{OnWhereDriven, ChangesNothing, OneDriver}

pub count_of_ones : CountOfOnes
count_of_ones = driving.count_of_ones

pub one_per_party : OnePerParty
one_per_party l b k =
    bit_at 0 (within b.count) k (drives l b)
    ∙ ap (λ (x : ℕ). one (ltb k (within b.count) && drives l b x)) (zero-add k)

pub fifteen_bits : FifteenBits
fifteen_bits l b = lt_of_lt_of_le (bits_lt 0 (within b.count) (drives l b)) (pow_mono (within_le b.count))

pub never_refused : NeverRefused
never_refused b = (refl, refl, refl, refl, refl)

pub leaves_as_lines : LeavesAsLines
leaves_as_lines b = refl

-- The sender of a standing byte is one of the parties, so that EOI is on where it is driven.
sender_inside : (b : Bus) → Inv b → (s : ℕ) → sent_by s b.standing ≡ true → s < within b.count
sender_inside b I s e =
    test (ltb s (within b.count))
    (λ l. ltb-true s (within b.count) l)
    (λ l. no (out (ltb-false s (within b.count) l)))
  where
    all : within b.count ≡ b.count
    all = let l = I.small in within_same (λ (n : ℕ). n) b.count (λ h. omega arith)

    out : within b.count ≤ s → ◌≡◌ {A = ℕ} 0 1
    out l = let z = ap (λ (p : Party). p.source) (I.pre.tail s (rw all at l)) in let y = I.pre.sent s e in no (cc)

end_on : (b : Bus) → Inv b → (st : Option Standing) → b.standing ≡ st
    → has_end st ≡ has_driver (mask (within b.count) (λ i. sends_end i st))
end_on b I None e = ap has_driver (sym (bits_none 0 (within b.count) (λ i. false) (λ i. refl)))
end_on b I (Some st) e = go st.end
  where
    s : ℕ
    s = st.sender.0

    bad : 2 ^ s ≡ 0 → ⊥
    bad z = let h = pow_pos s in omega arith

    go : (x : Bool) → x ≡ has_driver (mask (within b.count) (λ i. cond x (eqb i s) false))
    go false = ap has_driver (sym (bits_none 0 (within b.count) (λ i. false) (λ i. refl)))
    go true =
        let l = sender_inside b I s (rw e (eq-eqb s s refl)) in
        rw (bit_alone (within b.count) s, lt-ltb s (within b.count) l) (sym (ap not (ne_eqb (2 ^ s) 0 bad)))

on : (b : Bus) → Inv b → (l : Line) → is_driven l b ≡ has_driver (mask_of l b)
on b I Atn = sym (line_on_lem b.count b.parties I.size is_active)
on b I Dav = sym (line_on_lem b.count b.parties I.size drives_dav)
on b I Nrfd = sym (line_on_lem b.count b.parties I.size drives_nrfd)
on b I Ndac = sym (line_on_lem b.count b.parties I.size drives_ndac)
on b I Eoi = end_on b I b.standing refl
on b I Srq = sym (line_on_lem b.count b.parties I.size drives_srq)

pub on_where_driven : OnWhereDriven
on_where_driven b led = on b (led_inv b led)

-- Every party has settled and the sender of what stands is a source, so that a call which changes no party changes
-- nothing.
sender_stays : (b : Bus) → Inv b → (st : Option Standing) → b.standing ≡ st → deserted (atn_of b) b.parties st ≡ false
sender_stays b I None e = refl
sender_stays b I (Some st) e = ap not (sender_is_source b I st.sender st.kind st.value st.end e)

pub still : (b : Bus) → Inv b → (i : ℕ) (s : Said)
    → settle (atn_of b) b i (does s (here b i) b.standing) ≡ answered false s b
still b I i s =
    rw (
      set-get_or b.parties i idle,
      sender_stays b I b.standing refl,
      each_still b.count (settled (atn_of b)) b.parties I.still,
    ) refl

pub changes_nothing : ChangesNothing
changes_nothing b led = still b (led_inv b led) 0 (say ev.None 0 false 0)

pub one_driver : OneDriver
one_driver b led =
    let I = led_inv b led in (
      one_counted 0 (within b.count) (drives Atn b)
          (λ p q e f. one_atn_lem b I p q (is_active_lem (here b p).control e) (is_active_lem (here b q).control f)),
      one_counted 0 (within b.count) (drives Dav b)
          (λ p q e f. one_dav_lem b I p q (is_strs (here b p).source e) (is_strs (here b q).source f)),
    )
