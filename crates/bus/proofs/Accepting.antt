-- What an accepted call's ruling says: the tests that it passed. And what DAV says of who joins.
-- Assumes nothing.
use mathlib.Core.Path.{◌≡◌, refl}
use mathlib.Core.Bool.{Bool, true, false, cond, ◌&&◌}
use Prim.Native.Nat.{ℕ, ◌<◌}
use native.Mathlib.Omega.{arith}
use lib.Dec.{ltb}
use borrow.Author.Tests.{eqb-false, eq-eqb, ltb-true, ltb-false}
use Rattle.party.specs.Driving.{drives_dav}
use Rattle.role.proofs.Logic.{no}
use Rattle.parties.proofs.Places.{some_seen}
use Rattle.bus.specs.Types.{Place, Party, Strs, Aids, Anrs, Acrs, Acds, Standing, Bus, Verdict}
use Rattle.bus.specs.Types.ruling
use Rattle.effect.specs.Calls.{is_accepted, is_on}
use Rattle.bus.specs.Record.{here, lines}
use Rattle.effect.specs.Stands.{stands}
use Rattle.host_calls.specs.HostCalls.{joining}
use Rattle.refusals.specs.Refusals.{of_party, of_switch, is_inside}
use Rattle.bus.proofs.Invariant.{Inv}
use Rattle.std.specs.Prelude.{Option, Some, None, Err}

-- What a ruling of Accepted says of the test that it passed.
pub if_so : (t : Bool) (x r : Verdict) → is_accepted r ≡ false → is_accepted (cond t x r) ≡ true
    → (t ≡ true) × (is_accepted x ≡ true)
if_so true x r n e = (refl, e)
if_so false x r n e = no (cc)

pub if_not : (t : Bool) (x r : Verdict) → is_accepted r ≡ false → is_accepted (cond t r x) ≡ true
    → (t ≡ false) × (is_accepted x ≡ true)
if_not true x r n e = no (cc)
if_not false x r n e = (refl, e)

pub known : (b : Bus) (p : Place) (r : Verdict) → is_accepted (of_party (is_inside b.count p.0) r) ≡ true
    → (p.0 < b.count) × (is_accepted r ≡ true)
known b p r e = let h = if_so (is_inside b.count p.0) r (Err ruling.NoParty) refl e in
    (ltb-true p.0 b.count (right (ltb p.0 15) (ltb p.0 b.count) h.0), h.1)
  where
    right : (x y : Bool) → (x && y) ≡ true → y ≡ true
    right true y g = g
    right false y g = no (cc)

pub switched : (x : ℕ) (r : Verdict) → is_accepted (of_switch x r) ≡ true → (ltb 1 x ≡ false) × (is_accepted r ≡ true)
switched x r e = if_not (ltb 1 x) r (Err ruling.BadValue) refl e

pub off_is_0 : (x : ℕ) → ltb 1 x ≡ false → is_on x ≡ false → x ≡ 0
off_is_0 x e f = let h = ltb-false 1 x e in let g : (x ≡ 1 → ⊥) = eqb-false x 1 f in omega arith

-- while a byte stands DAV is true
pub stands_dav : (b : Bus) → Inv b → stands b.standing ≡ true → (lines b).dav ≡ true
stands_dav b I = go b.standing refl
  where
    strs : (p : Party) → p.source ≡ Strs → drives_dav p ≡ true
    strs p e = rw e

    go : (st : Option Standing) → b.standing ≡ st → stands st ≡ true → (lines b).dav ≡ true
    go None e h = no (cc)
    go (Some st) e h = some_seen b.count drives_dav b.parties refl I.pre.tail st.sender.0
        (strs (here b st.sender.0) (I.pre.sent st.sender.0 (rw e (eq-eqb st.sender.0 st.sender.0 refl))))

-- who joins is neither ready nor idle, nor has it taken, and while a byte stands it is in AWNS
pub joining_away : (d : Bool) → (joining d ≡ Acrs → ⊥) × (joining d ≡ Acds → ⊥) × (joining d ≡ Aids → ⊥)
joining_away true = (λ e. no (cc), λ e. no (cc), λ e. no (cc))
joining_away false = (λ e. no (cc), λ e. no (cc), λ e. no (cc))

pub joining_dav : (d : Bool) → d ≡ true → joining d ≡ Anrs → ⊥
joining_dav true h e = no (cc)
joining_dav false h e = no (cc)
