-- The ledger: what became of the standing byte and of each party's readiness, at every call of a list.
-- It reads the summaries of the calls alone, and never opens the machine.
-- Assumes nothing.
use mathlib.Core.Path.{◌≡◌, refl, sym, ap, ◌∙◌, subst}
use mathlib.Core.Bool.{Bool, true, false}
use mathlib.Core.List.{List}
use mathlib.Core.Logic.{◌⊎◌, inl, inr}
use Prim.Native.Nat.{ℕ, zero, suc, ◌≤◌, ◌<◌}
use native.Mathlib.Omega.{arith}
use native.Mathlib.Nat.{not-suc-le-zero}
use lib.ListN.{length}
use lib.Dec.{eqb, ltb}
use borrow.Author.Tests.{eqb-true, eqb-false, ltb-true, ltb-false}
use Rattle.role.proofs.Logic.{no, test}
use Rattle.bus.specs.Types.{Place, Kind, Acrs, Acds, Standing, Bus, Call, Answer}
use Rattle.bus.specs.Record.{here}
use Rattle.effect.specs.Stands.{stands}
use Rattle.bus.specs.Delivery.{moment, bus_at, answer_at, PutAt, EndsAt, BreaksAt, StandsAt, TakesAt, ReadyAt}
use Rattle.bus.specs.Delivery.{LeavesAt, StayedFrom, Taken, is_put, is_end}
use Rattle.bus.proofs.Summary.{Good, Shape, keeps, puts, ends, breaks, Way, stayed, took, left, broke, Takes}
use Rattle.std.specs.Prelude.{Option, Some, None}
use Rattle.effect.specs.Stands.{sent}

byte_stands : (st : Option Standing) (s : Place) (k : Kind) (v : ℕ) (e : Bool) → st ≡ Some (sent s k v e)
    → stands st ≡ true
byte_stands st s k v e h = rw h

-- a put finds nothing standing, and its byte stands then
of_put : {st : Option Standing} {c : Call} {a : Answer} → Shape st c a → is_put a.event ≡ true
    → (st ≡ None) × (s : Place) × (d : Kind) × (a.bus.standing ≡ Some (sent s d a.byte a.end))
of_put (keeps x e k s) p = no (cc)
of_put (puts x e k n r d c s) p = (n, r, d, s)
of_put (ends x e k r d c n s) p = no (cc)
of_put (breaks x e k u s) p = no (cc)

module _ (b : Bus) (cs : List Call)
    (G : (k : ℕ) → k < length cs → Good (bus_at b cs k) (moment b cs k).call (answer_at b cs k))
    (L : (k : ℕ) → suc k < length cs → bus_at b cs (suc k) ≡ (answer_at b cs k).bus)
    (S : (bus_at b cs 0).standing ≡ None) where
  before : (i k j : ℕ) → StandsAt b cs i k → i < j → j ≤ k → StandsAt b cs i j
  before i k j h l m = (h.0, l, λ x lx mx. h.2 x lx (omega arith))

  -- what stands once call k is done was put by it, or stood before it
  abbrev Stood : ℕ → ℕ → Type 0
  Stood i k = (i ≡ k) ⊎ ((i < k) × (k < length cs) × StandsAt b cs i k)

  stood : (i k : ℕ) → StandsAt b cs i (suc k) → suc k < length cs → Stood i k
  stood i k h l = let w = h.1 in test (eqb i k) (λ e. inl (eqb-true i k e)) (λ e.
      let ne : (i ≡ k → ⊥) = eqb-false i k e in let lt : i < k = omega arith in
      inr (lt, omega arith, before i (suc k) k h lt (omega arith)))

  -- a put finds nothing standing
  put_none : (i : ℕ) → PutAt b cs i → (bus_at b cs i).standing ≡ None
  put_none i p = (of_put (G i p.0).shape p.1).0

  -- what call i put up stands when call k comes, on the bus
  abbrev Up : ℕ → ℕ → Type 0
  Up i k = (s : Place) × (d : Kind) × ((bus_at b cs k).standing
      ≡ Some (sent s d (answer_at b cs i).byte (answer_at b cs i).end))

  onwards : (k : ℕ) (st : Option Standing) → suc k < length cs → (answer_at b cs k).bus.standing ≡ st
      → (bus_at b cs (suc k)).standing ≡ st
  onwards k st l e = ap (λ (x : Bus). x.standing) (L k l) ∙ e

  put_up : (i : ℕ) → PutAt b cs i → suc i < length cs → Up i (suc i)
  put_up i p l = let r = of_put (G i p.0).shape p.1 in
      (r.1, r.2, onwards i (Some (sent r.1 r.2 (answer_at b cs i).byte (answer_at b cs i).end)) l r.3)

  stay_up : (i k : ℕ) → suc k < length cs → (EndsAt b cs k ⊎ BreaksAt b cs k → ⊥) → Up i k → Up i (suc k)
  stay_up i k l h u = go (G k (omega arith)).shape
    where
      v : ℕ
      v = (answer_at b cs i).byte

      e' : Bool
      e' = (answer_at b cs i).end

      go : Shape (bus_at b cs k).standing (moment b cs k).call (answer_at b cs k) → Up i (suc k)
      go (keeps x e o s) = (u.0, u.1, onwards k (Some (sent u.0 u.1 v e')) l (s ∙ u.2))
      go (puts x e o n r d c s) = let z = u.2 in no (cc)
      go (ends x e o r d c n s) = absurd (h (inl e))
      go (breaks x e o w s) = absurd (h (inr o))

  -- a byte that has neither ended nor been broken off stands
  up : (i k : ℕ) → StandsAt b cs i k → k < length cs → Up i k
  up i zero h l = absurd (not-suc-le-zero h.1)
  up i (suc k) h l = go (up i k) (stood i k h l)
    where
      go : (StandsAt b cs i k → k < length cs → Up i k) → Stood i k → Up i (suc k)
      go r (inl e) = subst (λ (j : ℕ). Up i (suc j)) e (put_up i h.0 (omega (arith, e, l)))
      go r (inr s) = stay_up i k l (h.2 k s.0 (omega arith)) (r s.2 s.1)

  stands_at : (i k : ℕ) → StandsAt b cs i k → k < length cs → stands (bus_at b cs k).standing ≡ true
  stands_at i k h l = let u = up i k h l in byte_stands (bus_at b cs k).standing u.0 u.1 (answer_at b cs i).byte
      (answer_at b cs i).end u.2

  extend : (i k : ℕ) → StandsAt b cs i k → is_end (answer_at b cs k).event ≡ false → (answer_at b cs k).broken ≡ 0
      → StandsAt b cs i (suc k)
  extend i k h e o = let w = h.1 in (
    h.0,
    omega arith,
    λ j lj mj x. test (eqb j k)
        (λ q. last (subst (λ (y : ℕ). EndsAt b cs y ⊎ BreaksAt b cs y) (eqb-true j k q) x))
        (λ q. let ne : (j ≡ k → ⊥) = eqb-false j k q in h.2 j lj (omega arith) x),
  )
    where
      last : (EndsAt b cs k ⊎ BreaksAt b cs k) → ⊥
      last (inl x) = no (cc)
      last (inr x) = no (cc)

  -- what stands on the bus was put up by some call
  source : (k : ℕ) → k < length cs → stands (bus_at b cs k).standing ≡ true → (i : ℕ) × StandsAt b cs i k
  source zero l h = no (cc)
  source (suc k) l h = go (source k (omega arith)) (G k (omega arith)).shape
    where
      same : (bus_at b cs (suc k)).standing ≡ (answer_at b cs k).bus.standing
      same = ap (λ (x : Bus). x.standing) (L k l)

      go : (stands (bus_at b cs k).standing ≡ true → (i : ℕ) × StandsAt b cs i k)
          → Shape (bus_at b cs k).standing (moment b cs k).call (answer_at b cs k) → (i : ℕ) × StandsAt b cs i (suc k)
      go r (keeps x e o s) = let w = r (rw (same ∙ s) at h) in (w.0, extend w.0 k w.1 e o)
      go r (puts x e o n p d c s) = (k, ((omega arith, x), omega arith, λ j lj mj. no (omega arith)))
      go r (ends x e o p d c n s) = no (cc same)
      go r (breaks x e o w s) = no (cc same)

  -- two bytes never stand at once
  one_put : (i j k : ℕ) → StandsAt b cs i k → PutAt b cs j → i < j → j < k → ⊥
  one_put i j k h p l m = let z = stands_at i j (before i k j h l (omega arith)) p.0 in let y = put_none j p in
      no (cc)

  acc_next : (p k : ℕ) → suc k < length cs → (here (bus_at b cs (suc k)) p).acceptor ≡ (here (answer_at b cs k).bus p
      ).acceptor
  acc_next p k l = ap (λ (x : Bus). (here x p).acceptor) (L k l)

  -- who is in ACRS while a byte stands was so when it was put, and has not taken it
  record Waits (p i k : ℕ) : Type 0 where
    ready : ReadyAt b cs p i
    untaken : (j : ℕ) → i < j → j < k → TakesAt b cs p j → ⊥

  waits : (p i k : ℕ) → StandsAt b cs i k → k < length cs → (here (bus_at b cs k) p).acceptor ≡ Acrs → Waits p i k
  waits p i zero h l a = absurd (not-suc-le-zero h.1)
  waits p i (suc k) h l a = go (waits p i k) (stood i k h l)
    where
      a' : (here (answer_at b cs k).bus p).acceptor ≡ Acrs
      a' = sym (acc_next p k l) ∙ a

      put : i ≡ k → Waits p i (suc k)
      put e = record {
        ready = sym ((G i h.0.0).ready h.0.1 p)
            ∙ subst (λ (j : ℕ). (here (answer_at b cs j).bus p).acceptor ≡ Acrs) (sym e) a';
        untaken = λ j lj mj. no (omega arith);
      }

      on : i < k → Waits p i k → Waits p i (suc k)
      on lt w = record {
        ready = w.ready;
        untaken = λ j lj mj t. test (eqb j k) (λ q. now (subst (λ (y : ℕ). TakesAt b cs p y) (eqb-true j k q) t))
            (λ q. let ne : (j ≡ k → ⊥) = eqb-false j k q in w.untaken j lj (omega arith) t);
      }
        where
          now : TakesAt b cs p k → ⊥
          now t = let z = ((G k t.0).takes t.2 p t.1).to in no (cc a')

      go : (StandsAt b cs i k → k < length cs → (here (bus_at b cs k) p).acceptor ≡ Acrs → Waits p i k) → Stood i k
          → Waits p i (suc k)
      go r (inl e) = put e
      go r (inr s) = on s.0 (r s.2 s.1 ((G k s.1).rejoin (stands_at i k s.2 s.1) p a'))

  -- what has become of a party that was ready
  data Since (p i k : ℕ) : Type 0 where
    waiting : (here (bus_at b cs k) p).acceptor ≡ Acrs → Since p i k
    taking : (j : ℕ) → i < j → j < k → TakesAt b cs p j → Since p i k
    leaving : (j : ℕ) → i < j → j < k → LeavesAt b cs p j → Since p i k

  since : (p i k : ℕ) → StandsAt b cs i k → k < length cs → ReadyAt b cs p i → Since p i k
  since p i zero h l a = absurd (not-suc-le-zero h.1)
  since p i (suc k) h l a = go (since p i k) (stood i k h l)
    where
      put : i ≡ k → Since p i (suc k)
      put e = waiting (acc_next p k l ∙ subst (λ (j : ℕ). (here (answer_at b cs j).bus p).acceptor ≡ Acrs) e ((G i
          h.0.0).ready h.0.1 p ∙ a))

      way : i < k → Way (moment b cs k).call (answer_at b cs k) p → Since p i (suc k)
      way lt (stayed e) = waiting (acc_next p k l ∙ e)
      way lt (took t) = taking k lt (omega arith) (omega arith, t.0, t.1)
      way lt (left r c) = leaving k lt (omega arith) (r, c)
      way lt (broke o) = absurd (h.2 k lt (omega arith) (inr o))

      on : (lt : i < k) (lk : k < length cs) → StandsAt b cs i k → Since p i k → Since p i (suc k)
      on lt lk st (waiting e) = way lt ((G k lk).leaves (stands_at i k st lk) p e)
      on lt lk st (taking j lj mj t) = taking j lj (omega arith) t
      on lt lk st (leaving j lj mj t) = leaving j lj (omega arith) t

      go : (StandsAt b cs i k → k < length cs → ReadyAt b cs p i → Since p i k) → Stood i k → Since p i (suc k)
      go r (inl e) = put e
      go r (inr s) = on s.0 s.1 s.2 (r s.2 s.1 a)

  -- The fields of demand 3.
  -- who takes while the byte of call i stands takes that byte
  taken_of : (p k i : ℕ) → StandsAt b cs i k → TakesAt b cs p k → Taken b cs p k i
  taken_of p k i st t = record {
    stands = st;
    last = λ j m n w. one_put i j k st w m n;
    ready = (waits p i k st l T.from).ready;
    from = T.from;
    to = T.to;
    value = same.0;
    end = same.1;
    input = λ e. T.input e ∙ rw (same.0, same.1) refl;
  }
    where
      l : k < length cs
      l = t.0

      T : Takes (bus_at b cs k) (answer_at b cs k) p
      T = (G k l).takes t.2 p t.1

      w : (s : Place) × (d : Kind) × ((bus_at b cs k).standing
          ≡ Some (sent s d (answer_at b cs k).byte (answer_at b cs k).end))
      w = T.what

      u : Up i k
      u = up i k st l

      value_of : Option Standing → ℕ
      value_of None = 0
      value_of (Some x) = x.value

      end_of : Option Standing → Bool
      end_of None = false
      end_of (Some x) = x.end

      inj : (x : Option Standing) (s s' : Place) (d d' : Kind) (v v' : ℕ) (e e' : Bool) → x ≡ Some (sent s d v e)
          → x ≡ Some (sent s' d' v' e') → (v ≡ v') × (e ≡ e')
      inj x s s' d d' v v' e e' f g = (ap value_of (sym f ∙ g), ap end_of (sym f ∙ g))

      same : ((answer_at b cs k).byte ≡ (answer_at b cs i).byte) × ((answer_at b cs k).end ≡ (answer_at b cs i).end)
      same = inj (bus_at b cs k).standing w.0 u.0 w.1 u.1 (answer_at b cs k).byte (answer_at b cs i).byte
          (answer_at b cs k).end (answer_at b cs i).end w.2 u.2

  pub taken : (p k : ℕ) → TakesAt b cs p k → (i : ℕ) × Taken b cs p k i
  taken p k t = (found.0, taken_of p k found.0 found.1 t)
    where
      w : (s : Place) × (d : Kind) × ((bus_at b cs k).standing
          ≡ Some (sent s d (answer_at b cs k).byte (answer_at b cs k).end))
      w = ((G k t.0).takes t.2 p t.1).what

      found : (i : ℕ) × StandsAt b cs i k
      found = source k t.0 (byte_stands (bus_at b cs k).standing w.0 w.1 (answer_at b cs k).byte
          (answer_at b cs k).end w.2)

  pub silent : (p k : ℕ) → k < length cs → (here (bus_at b cs k) p).acceptor ≡ Acrs
      → (here (answer_at b cs k).bus p).acceptor ≡ Acds → TakesAt b cs p k
  silent p k l e f = let t = (G k l).silent p e f in (l, t.0, t.1)

  once_lt : (p i k l : ℕ) → StandsAt b cs i k → StandsAt b cs i l → TakesAt b cs p k → TakesAt b cs p l → k < l → ⊥
  once_lt p i k l hk hl tk tl lt = (waits p i l hl tl.0 ((G l tl.0).takes tl.2 p tl.1).from).untaken k
      hk.1 lt tk

  pub once : (p i k l : ℕ) → StandsAt b cs i k → StandsAt b cs i l → TakesAt b cs p k → TakesAt b cs p l → k ≡ l
  once p i k l hk hl tk tl = test (ltb k l) (λ e. absurd (once_lt p i k l hk hl tk tl (ltb-true k l e)))
      (λ e. test (ltb l k) (λ f. absurd (once_lt p i l k hl hk tl tk (ltb-true l k f)))
      (λ f. let x = ltb-false k l e in let y = ltb-false l k f in omega arith))

  pub everyone : (p i e : ℕ) → StandsAt b cs i e → e < length cs → EndsAt b cs e → ReadyAt b cs p i
      → StayedFrom b cs p i e → (k : ℕ) × ((k < e) × TakesAt b cs p k × Taken b cs p k i)
  everyone p i e h l x r n = go (since p i e h l r)
    where
      go : Since p i e → (k : ℕ) × ((k < e) × TakesAt b cs p k × Taken b cs p k i)
      go (waiting a) = absurd ((G e l).last x p a)
      go (taking j lj mj t) = (j, (mj, t, taken_of p j i (before i e j h lj (omega arith)) t))
      go (leaving j lj mj t) = absurd (n j lj mj t)

  pub ordered : (p k l i j : ℕ) → k < l → TakesAt b cs p k → Taken b cs p k i → TakesAt b cs p l → Taken b cs p l j
      → i < j
  ordered p k l i j lt tk a tl c = test (ltb i j) (λ e. ltb-true i j e)
      (λ e. absurd (bad (ltb-false i j e)))
    where
      bad : j ≤ i → ⊥
      bad m = test (eqb i j) (λ e. let q = eqb-true i j e in
          once_lt p i k l a.stands (subst (λ (y : ℕ). StandsAt b cs y l) (sym q) c.stands) tk tl lt)
          (λ e. let ne : (i ≡ j → ⊥) = eqb-false i j e in let y = a.stands.1 in
          one_put j i l c.stands a.stands.0 (omega arith) (omega arith))
