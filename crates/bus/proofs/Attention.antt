-- Attention: whatever the parties were, it leaves the invariant, if their flags and control are in order.
-- Assumes nothing.
use mathlib.Core.Path.{◌≡◌, refl, sym, ap, ◌∙◌, subst}
use mathlib.Core.Bool.{Bool, true, false, cond}
use mathlib.Core.List.{List}
use mathlib.Core.Logic.{◌⊎◌, inl, inr}
use Prim.Native.Nat.{ℕ, ◌≤◌, ◌<◌}
use native.Mathlib.Omega.{arith}
use lib.ListN.{length}
use lib.Dec.{ltb}
use borrow.Author.Tests.{ltb-true, ltb-false}
use Rattle.party.specs.Parts.{idle, held_bytes}
use Rattle.party.specs.Driving.{is_active}
use Rattle.party.specs.Settling.{attended, acceptor_attended, settled}
use Rattle.role.proofs.Logic.{no}
use Rattle.role.proofs.Roles.{name_of, Apart, marked, unmarked, Single}
use Rattle.party.proofs.Settled.{attended_unmarked}
use Rattle.parties.specs.Places.{at, some, each, total}
use Rattle.parties.proofs.Places.{at_each, each_below, each_past, some_seen, some_each, length_each, total_each}
use Rattle.bus.specs.Types.{Name, Party, Control, Idle, Standby, Active, Strs, Acceptor, Aids, Anrs, Acrs, Acds}
use Rattle.bus.specs.Types.{Standing, Bus}
use Rattle.bus.specs.Types.{Said}
use Rattle.effect.specs.Stands.{stands}
use Rattle.bus.specs.Settling.{attend}
use Rattle.bus.proofs.Invariant.{busy, Pre, Inv, kept_pre, seen, seen_still}
use Rattle.bus.proofs.Change.{Unique, same_apart}
use Rattle.std.specs.Prelude.{Option, Some, None, is_some}

-- the parties after attention, place by place
abbrev heeded : Bool → ℕ → (ℕ → Party) → ℕ → Party
heeded t n v j = cond (ltb j n) (attended t (v j)) (v j)

module _ (t : Bool) (n : ℕ) (v : ℕ → Party) where
  heeded_all : (R : ℕ → Party → Type 0) → ((j : ℕ) → j < n → R j (attended t (v j))) → ((j : ℕ) → n ≤ j → R j (v j))
      → (j : ℕ) → R j (heeded t n v j)
  heeded_all R f g j = go (ltb j n) refl
    where
      go : (x : Bool) → ltb j n ≡ x → R j (cond x (attended t (v j)) (v j))
      go true e = f j (ltb-true j n e)
      go false e = g j (ltb-false j n e)

  heeded_same : (A : Type 0) (f : Party → A) → ((p : Party) → f (attended t p) ≡ f p) → (j : ℕ)
      → f (heeded t n v j) ≡ f (v j)
  heeded_same A f h = heeded_all (λ j x. f x ≡ f (v j)) (λ j l. h (v j)) (λ j l. refl)

-- What the parties must be after a call's own changes to flags and control.
pub record Raw (n : ℕ) (v : ℕ → Party) : Type 0 where
  pub tail : (j : ℕ) → n ≤ j → v j ≡ idle
  pub charge : Unique (λ x. busy x.control) v
  pub addr : Apart n (λ j. (v j).role)
  pub talk : Unique (λ x. x.role.talk) v
  pub apart : (j : ℕ) → Single (v j).role

-- attention leaves no acceptor in ACRS or ACDS
abbrev Taker : Acceptor → Type 0
Taker x = (x ≡ Acrs) ⊎ (x ≡ Acds)

aids : Taker Aids → ⊥
aids (inl e) = no (cc)
aids (inr e) = no (cc)

anrs : Taker Anrs → ⊥
anrs (inl e) = no (cc)
anrs (inr e) = no (cc)

attended_taker : (t : Bool) (c : Control) (y : Bool) → Taker (acceptor_attended t c y) → ⊥
attended_taker true Active y e = aids e
attended_taker true Idle y e = anrs e
attended_taker true Standby y e = anrs e
attended_taker false c true e = anrs e
attended_taker false c false e = aids e

heed_pre : (t : Bool) (n : ℕ) (v : ℕ → Party) → Raw n v → ((j : ℕ) → is_active (v j) ≡ true → t ≡ true)
    → Pre n t (heeded t n v) None
heed_pre t n v P a = record {
  tail = heeded_all t n v (λ j x. n ≤ j → x ≡ idle) (λ j l h. absurd (bad j l h)) (λ j l. P.tail j);
  atn_if = λ j h. a j (sym (heeded_same t n v Bool is_active (λ p. refl) j) ∙ h);
  charge = λ i j e f. P.charge i j (sym (heeded_same t n v Bool (λ x. busy x.control) (λ p. refl) i) ∙ e)
      (sym (heeded_same t n v Bool (λ x. busy x.control) (λ p. refl) j) ∙ f);
  addr = same_apart n (λ j. (v j).role) (λ j. (heeded t n v j).role)
      (heeded_same t n v Name (λ x. name_of x.role) (λ p. refl)) P.addr;
  sends = heeded_all t n v (λ j x. x.source ≡ Strs → false ≡ true) (λ j l e. no (cc))
      (λ j l e. let z = P.tail j l in no (cc));
  sent = λ j h. no (cc);
  kind = λ h. no (cc);
  leads = λ h. no (cc);
  no_anrs = λ h. no (cc);
  active = heeded_all t n v (λ j x. is_active x ≡ true → x.acceptor ≡ Aids) (λ j l h. rw (a j h, h))
      (λ j l h. ap (λ (x : Party). x.acceptor) (P.tail j l));
  others = λ e. heeded_all t n v (λ j x. j < n → is_active x ≡ false → x.acceptor ≡ Aids → ⊥)
      (λ j l m h q. no (under e (v j) h q)) (λ j l m. absurd (bad j m l));
  listens = λ e. heeded_all t n v (λ j x. x.role.listen ≡ false → x.acceptor ≡ Aids) (λ j l h. rw (e, h))
      (λ j l h. ap (λ (x : Party). x.acceptor) (P.tail j l));
  joins = λ e. heeded_all t n v (λ j x. x.role.listen ≡ true → x.acceptor ≡ Aids → ⊥)
      (λ j l h q. let z : (attended t (v j)).acceptor ≡ Anrs = rw (e, h) in no (cc))
      (λ j l h. let z = ap (λ (x : Party). x.role.listen) (P.tail j l) in no (cc));
  heard = unmarked (λ j. (heeded t n v j).role)
      (λ i j e f. P.talk i j (sym (heeded_same t n v Bool (λ x. x.role.talk) (λ p. refl) i) ∙ e)
      (sym (heeded_same t n v Bool (λ x. x.role.talk) (λ p. refl) j) ∙ f))
      (heeded_all t n v (λ j x. marked x.role ≡ false) (λ j l. attended_unmarked t (v j))
      (λ j l. ap (λ (x : Party). marked x.role) (P.tail j l)));
  apart = heeded_all t n v (λ j x. Single x.role) (λ j l. P.apart j) (λ j l. P.apart j);
  empty = λ e. heeded_all t n v (λ j x. x.acceptor ≡ Acrs → is_some x.input ≡ false)
      (λ j l h. absurd (attended_taker t (v j).control (v j).role.listen (inl h)))
      (λ j l h. ap (λ (x : Party). is_some x.input) (P.tail j l));
  plain = λ h. no (cc);
  polled = λ j h. no (cc);
  polls = λ j h. no (cc);
}
  where
    bad : (j : ℕ) → j < n → n ≤ j → ⊥
    bad j l h = omega arith

    under : t ≡ true → (p : Party) → is_active p ≡ false → (attended t p).acceptor ≡ Aids → ◌≡◌ {A = ℕ} 0 1
    under e p h q = let z : (attended t p).acceptor ≡ Anrs = rw (e, h) in cc

pub off_nothing : (st : Option Standing) → cond (stands st) None st ≡ None
off_nothing None = refl
off_nothing (Some st) = refl

module _ (b : Bus) (s : Said) (ps : List Party) (st : Option Standing) (z : length ps ≡ 15) (l : b.count ≤ 15)
    (R : Raw b.count (at ps)) where
  n : ℕ
  n = b.count

  t : Bool
  t = some b.count is_active ps

  pub attend_inv : Inv (attend b s ps st).bus
  unfolding n t
  attend_inv = record {
    size = length_each n (settled t) qs ∙ length_each n (attended t) ps ∙ z;
    small = l;
    pre = rw (off_nothing st) (seen n qs fits tail t None same
        (kept_pre n t (at qs) None (subst (λ (w : ℕ → Party). Pre n t w None) (sym seen_as) heed)
        (λ j h. no (cc))));
    still = seen_still n qs fits tail t same;
  }
    where
      qs : List Party
      qs = each n (attended t) ps

      seen_as : at qs ≡ heeded t n (at ps)
      seen_as = at_each n (attended t) ps (omega (arith, z))

      heed : Pre n t (heeded t n (at ps)) None
      heed = heed_pre t n (at ps) R (some_seen n is_active ps refl R.tail)

      fits : n ≤ length qs
      fits = rw length_each (omega (arith, z))

      tail : (j : ℕ) → n ≤ j → at qs j ≡ idle
      tail j h = subst (λ (w : ℕ → Party). w j ≡ idle) (sym seen_as) (heed.tail j h)

      same : some n is_active qs ≡ t
      same = some_each n is_active (attended t) ps (λ p. refl)

  -- nobody is ready, and nobody has just taken
  pub no_taker : (j : ℕ) → Taker (at (attend b s ps st).bus.parties j).acceptor → ⊥
  unfolding n t
  no_taker j = go (ltb j n) refl
    where
      fits : n ≤ length ps
      fits = omega (arith, z)

      fits' : n ≤ length (each n (attended t) ps)
      fits' = rw length_each fits

      go : (x : Bool) → ltb j n ≡ x → Taker (at (each n (settled t) (each n (attended t) ps)) j).acceptor → ⊥
      go true e h = attended_taker t (at ps j).control (at ps j).role.listen
          (rw (
            each_below n (settled t) (each n (attended t) ps) j (ltb-true j n e) fits',
            each_below n (attended t) ps
                j (ltb-true j n e) fits,
          ) at h)
      go false e h = aids (rw (
        each_past n (settled t) (each n (attended t) ps) j (ltb-false j n e),
        each_past n
            (attended t) ps j (ltb-false j n e),
        R.tail j (ltb-false j n e),
      ) at h)

  -- attention and settling drop nothing by themselves
  pub attend_held : total b.count held_bytes (attend b s ps st).bus.parties ≡ total b.count held_bytes ps
  unfolding n t
  attend_held = total_each n held_bytes (settled t) (each n (attended t) ps) (λ p. refl)
      ∙ total_each n held_bytes (attended t) ps (λ p. refl)
