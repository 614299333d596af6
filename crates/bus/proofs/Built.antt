-- A bus just built: it has settled, and it keeps the invariant.
-- Assumes nothing.
use mathlib.Core.Path.{◌≡◌, refl, sym, ap, ◌∙◌}
use mathlib.Core.Bool.{Bool, true, false}
use mathlib.Core.List.{List, [], ◌∷◌}
use Prim.Native.Nat.{ℕ, zero, suc, ◌≤◌, ◌<◌}
use native.Mathlib.Omega.{arith}
use native.Mathlib.Nat.{not-suc-le-zero, le_of_suc-le-suc}
use lib.Dec.{ltb}
use lib.ListN.{length, get_or}
use borrow.Author.Tests.{ltb-true, ltb-false}
use Rattle.names.specs.Names.{clashes}
use Rattle.party.specs.Parts.{idle, held_bytes, built_party}
use Rattle.party.specs.Driving.{is_active}
use Rattle.party.specs.Settling.{settled}
use Rattle.role.proofs.Logic.{no, test}
use Rattle.role.proofs.Roles.{marked, unmarked}
use Rattle.party.proofs.Settled.{newborn_still}
use Rattle.parties.specs.Places.{at, each}
use Rattle.parties.proofs.Places.{some_true, total_zero}
use Rattle.bus.specs.Types.{Place, Name, Party, Strs, Aids, Acrs, Said}
use Rattle.bus.specs.Record.{here, built}
use Rattle.addresses.specs.Addresses.{placed, bad_build}
use Rattle.addresses.proofs.Unrefused.{beyond, fits, apart}
use Rattle.bus.specs.Settling.{settle_bus}
use Rattle.bus.specs.Delivery.{held}
use Rattle.bus.proofs.Invariant.{busy, Pre, Inv, atn_of}
use Rattle.std.specs.Prelude.{None, is_some}

-- settling a bus just built leaves it as it is
placed_still : (n m : ℕ) (atn : Bool) (xs : List Name) → each n (settled atn) (placed m xs) ≡ placed m xs
placed_still (suc n) (suc m) atn [] = rw (newborn_still atn, placed_still n m atn []) refl
placed_still (suc n) (suc m) atn (a ∷ xs) = rw (newborn_still atn, placed_still n m atn xs) refl
placed_still n m atn xs = refl

pub built_settled : (xs : List Name) (s : Place) (atn : Bool) (w : Said)
    → (settle_bus atn (built xs s) w (built xs s).parties None).bus ≡ built xs s
built_settled xs s atn w = rw (placed_still _ 15 _ xs) refl

-- the places
placed_length : (n : ℕ) (xs : List Name) → length (placed n xs) ≡ n
placed_length zero xs = refl
placed_length (suc n) [] = ap suc (placed_length n [])
placed_length (suc n) (a ∷ xs) = ap suc (placed_length n xs)

pub placed_at : (n : ℕ) (xs : List Name) (j : ℕ) → j < length xs → length xs ≤ n
    → at (placed n xs) j ≡ built_party (get_or xs j beyond)
placed_at n [] j h l = absurd (not-suc-le-zero h)
placed_at zero (a ∷ xs) j h l = absurd (not-suc-le-zero l)
placed_at (suc n) (a ∷ xs) zero h l = refl
placed_at (suc n) (a ∷ xs) (suc j) h l = placed_at n xs j (le_of_suc-le-suc h) (le_of_suc-le-suc l)

placed_past : (n : ℕ) (xs : List Name) (j : ℕ) → length xs ≤ j → at (placed n xs) j ≡ idle
placed_past (suc n) [] (suc j) h = placed_past n [] j (omega arith)
placed_past (suc n) (a ∷ xs) zero h = absurd (not-suc-le-zero h)
placed_past (suc n) (a ∷ xs) (suc j) h = placed_past n xs j (le_of_suc-le-suc h)
placed_past n xs j h = refl

-- The bus that an accepted build gives.
module _ (xs : List Name) (s : Place) (ok : bad_build xs s ≡ false) where
  few : length xs ≤ 15
  few = fits xs s ok

  -- every place holds a party just built
  new : (j : ℕ) → (n : Name) × (here (built xs s) j ≡ built_party n)
  new j = test (ltb j (length xs)) (λ h. (get_or xs j beyond, placed_at 15 xs j (ltb-true j (length xs) h) few))
      (λ h. (beyond, placed_past 15 xs j (ltb-false j (length xs) h)))

  -- what holds of every party just built holds of every party
  pub all_new : (R : Party → Type 0) → ((n : Name) → R (built_party n)) → (j : ℕ) → R (here (built xs s) j)
  all_new R r j = let n = new j in rw n.1 (r n.0)

  nobody : atn_of (built xs s) ≡ false
  nobody = test (atn_of (built xs s)) (λ h. let r = some_true (length xs) is_active (placed 15 xs) h in let z = all_new
      (λ p. is_active p ≡ false) (λ a. refl) r.0 in let y = r.1 in no (cc)) (λ h. h)

  fresh_pre : Pre (length xs) (atn_of (built xs s)) (here (built xs s)) None
  fresh_pre = record {
    tail = λ j h. placed_past 15 xs j h;
    atn_if = all_new (λ p. is_active p ≡ true → atn_of (built xs s) ≡ true) (λ a h. no (cc));
    charge = λ i j. all_new (λ p. busy p.control ≡ true → busy (here (built xs s) j).control ≡ true → i ≡ j)
        (λ a h. no (cc)) i;
    addr = λ i j h k e. apart xs s ok i j h k
        (sym (ap (λ (p : Party). clashes p.role.name (get_or xs j beyond)) (placed_at 15 xs i h few))
        ∙ sym (ap (λ (p : Party). clashes (here (built xs s) i).role.name p.role.name) (placed_at 15 xs j k few))
        ∙ e);
    sends = λ j. all_new (λ p. p.source ≡ Strs → false ≡ true) (λ a h. no (cc)) j;
    sent = λ j h. no (cc);
    kind = λ h. no (cc);
    leads = λ h. no (cc);
    no_anrs = λ h. no (cc);
    active = λ j. all_new (λ p. is_active p ≡ true → p.acceptor ≡ Aids) (λ a h. refl) j;
    others = λ h. let z = nobody in no (cc);
    listens = λ h j. all_new (λ p. p.role.listen ≡ false → p.acceptor ≡ Aids) (λ a e. refl) j;
    joins = λ h j. all_new (λ p. p.role.listen ≡ true → p.acceptor ≡ Aids → ⊥) (λ a e. no (cc)) j;
    heard = unmarked (λ j. (here (built xs s) j).role)
        (λ i j. all_new (λ p. p.role.talk ≡ true → (here (built xs s) j).role.talk ≡ true → i ≡ j) (λ a h. no (cc)) i)
        (all_new (λ p. marked p.role ≡ false) (λ a. refl));
    apart = all_new (λ p. p.role.talk ≡ true → p.role.listen ≡ true → ⊥) (λ a h. no (cc));
    empty = λ h. all_new (λ p. p.acceptor ≡ Acrs → is_some p.input ≡ false) (λ a e. refl);
    plain = λ h. no (cc);
    polled = λ j h. no (cc);
    polls = λ j h. no (cc);
  }

  pub built_inv : Inv (built xs s)
  built_inv = record {
    size = placed_length 15 xs;
    small = few;
    pre = fresh_pre;
    still = all_new (λ p. settled (atn_of (built xs s)) p ≡ p) (newborn_still (atn_of (built xs s)));
  }

  pub built_held : held (built xs s) ≡ 0
  built_held = total_zero (length xs) held_bytes (placed 15 xs) (all_new (λ p. held_bytes p ≡ 0) (λ a. refl))
