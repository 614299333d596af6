-- What a call reads at a slot of the array is what the machine reads at the place.
-- Assumes nothing.
use mathlib.Core.Path.{◌≡◌, refl, ap, ◌∙◌}
use mathlib.Core.Bool.{Bool, true, false, not, cond}
use mathlib.Core.List.{List}
use Prim.Native.Nat.{ℕ, ◌≤◌}
use native.Mathlib.Omega.{arith}
use lib.Dec.{ltb, eqb}
use lib.ListN.{length, get_or-eq_default}
use borrow.Author.Tests.{ltb-false}
use Rattle.party.specs.Parts.{idle}
use Rattle.party.specs.Sending.{is_source}
use Rattle.role.proofs.Logic.{no, test}
use Rattle.parties.specs.Places.{at, slot, within}
use Rattle.bus.specs.Types.{Place, Party, Standing, Bus, Call, Verdict, View}
use Rattle.bus.specs.Types.call_of
use Rattle.effect.specs.Calls.{is_accepted, place_of}
use Rattle.bus.specs.Record.{lines}
use Rattle.effect.specs.Stands.{stands, has_end, sender_slot, is_left}
use Rattle.parties.specs.declared.Scan.{Scan}
use Rattle.parties.specs.Lines.{scan_of}
use Rattle.parties.specs.Sweeping.{sweep_of, told}
use Rattle.parties.proofs.Sweeps.{told_scan}
use Rattle.bus.specs.Settling.{deserted}
use Rattle.refusals.specs.Refusals.{of_party, is_inside, judge}
use Rattle.bus.specs.Machine.{verdict, view_at}
use Rattle.std.specs.Prelude.{Option, Some, None}

slot_in : (i : ℕ) → ltb i 15 ≡ true → slot i ≡ i
slot_in i e = rw e refl

-- nothing of a party is read where there is none
judge_out : (c : Call) (v w : View) → v.inside ≡ false → w.inside ≡ false → judge v c ≡ judge w c
judge_out (call_of.Of i a) v w e f = rw (e, f) refl
judge_out c v w e f = refl

-- what the code sees, at the slot of a place, of the bus and of the scan that it is told
abbrev pub seen_as : Scan → Place → Bus → View
seen_as s p b = record {
  lines = s.lines;
  standing = b.standing;
  place = p;
  party = at b.parties (slot p.0);
  talker = s.talker;
  inside = is_inside b.count p.0;
  chief = eqb p.0 b.system.0;
}

abbrev pub seen : Place → Bus → View
seen p b = seen_as (scan_of (slot p.0) b.count b.parties (has_end b.standing)) p b

pub judge_seat : (b : Bus) (p : Place) (c : Call) → judge (seen p b) c ≡ judge (view_at p (lines b) b) c
judge_seat b p c = test (ltb p.0 15) (λ e. rw (slot_in p.0 e) refl)
    (λ e. judge_out c (seen p b) (view_at p (lines b) b) (rw e refl) (rw e refl))

in_seat : (i count : ℕ) (r : Verdict) → is_accepted (of_party (is_inside count i) r) ≡ true → slot i ≡ i
in_seat i count r ok = test (ltb i 15) (slot_in i) (λ e. no (out e))
  where
    out : ltb i 15 ≡ false → ◌≡◌ {A = ℕ} 0 1
    out e = let z : is_accepted (of_party (is_inside count i) r) ≡ false = rw e refl in no (cc)

-- an accepted call has its seat
pub seat : (b : Bus) (c : Call) → is_accepted (verdict (lines b) b c) ≡ true → slot (place_of c).0 ≡ (place_of c).0
seat b (call_of.Of p a) = in_seat p.0 b.count _
seat b c = λ _. refl

-- the sender of what stands, at its slot
pub left_seat : (t : Bool) (ps : List Party) (st : Option Standing) → length ps ≡ 15
    → is_left (is_source t (at ps (sender_slot st))) st ≡ deserted t ps st
left_seat t ps None z = refl
left_seat t ps (Some st) z = test (ltb st.sender.0 15) (λ h. rw h refl)
    (λ h. rw (h, gone (ltb-false st.sender.0 15 h)) (mute t))
  where
    gone : 15 ≤ st.sender.0 → at ps st.sender.0 ≡ idle
    gone h = get_or-eq_default ps idle (omega arith)

    mute : (t : Bool) → true ≡ not (is_source t idle)
    mute true = refl
    mute false = refl

-- where attention comes, what stands is broken off
pub broken_off : (st : Option Standing) → cond (stands st) None st ≡ None
broken_off None = refl
broken_off (Some st) = refl

-- what the call is told of the parties, and the refusal that it meets
module _ (b : Bus) (c : Call) (z : length b.parties ≡ 15) where
  pub scan_read : told (sweep_of (within b.count) b.parties) (slot (place_of c).0) (has_end b.standing)
      ≡ scan_of (slot (place_of c).0) b.count b.parties (has_end b.standing)
  scan_read = told_scan b.count b.parties z (slot (place_of c).0) (has_end b.standing)

  pub verdict_read : judge
      (seen_as (told (sweep_of (within b.count) b.parties) (slot (place_of c).0) (has_end b.standing))
      (place_of c) b) c ≡ verdict (lines b) b c
  verdict_read = ap (λ (s : Scan). judge (seen_as s (place_of c) b) c) scan_read ∙ judge_seat b (place_of c) c
