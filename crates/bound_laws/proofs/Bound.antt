-- The bound: what seven rounds do, by the places of demand 3's list, and that a run is such rounds.
-- Assumes nothing.
use mathlib.Core.Path.{◌≡◌, refl, sym, ap, ◌∙◌, subst}
use mathlib.Core.Bool.{Bool, true, false}
use mathlib.Core.List.{List, [], ◌∷◌, ◌++◌, append_assoc}
use mathlib.Core.Logic.{◌⊎◌, inl, inr}
use Prim.Native.Nat.{ℕ, zero, suc, ◌+◌, ◌-◌, ◌*◌, ◌<◌}
use native.Mathlib.Omega.{arith}
use native.Mathlib.Nat.{not-suc-le-zero, le_of_suc-le-suc}
use lib.ListN.{length, get_or, length-map, length-append}
use lib.Dec.{ltb}
use borrow.Author.Tests.{ltb-true, ltb-false}
use Rattle.party.specs.Driving.{is_active}
use Rattle.party.specs.Sending.{is_source}
use Rattle.role.proofs.Logic.{no, test}
use Rattle.bus.specs.declared.Bus.{Bus}
use Rattle.bus.specs.Record.{here, accept}
use Rattle.bus.specs.Machine as m
use Rattle.bus.specs.Delivery.{Moment, history, moment, is_put, is_end}
use Rattle.bus.proofs.Invariant.{Inv, atn_of, quiet}
use Rattle.bus.proofs.Putting.{nothing_stands}
use Rattle.bus.specs.Types.{Party, Event}
use Rattle.bus.specs.Types.ev
use Rattle.bus.specs.Types.call_of
use Rattle.runner.specs.Waiting.{TieOrder, Orders, in_order}
use Rattle.runner.specs.Runner.{step_of, steps, turns_of}
use Rattle.runner.specs.Ties.{by_address}
use Rattle.bound_laws.specs.Bound.{Offered, EndsWithin, EndsSoon, Bound, BoundByAddress}
use Rattle.runner.proofs.Led.{led_inv}
use Rattle.runner.proofs.Members.{member}
use Rattle.runner.proofs.Queue.{rota}
use Rattle.runner.proofs.Rota.{rota_round}
use Rattle.runner.proofs.InOrder.{order_length, order_member, turns_order}
use Rattle.runner.proofs.ByAddress.{address_orders}
use Rattle.turn_laws.proofs.AsBefore.{turns_of_lem}
use Rattle.bound_laws.proofs.Talker.{Waits}
use Rattle.bound_laws.proofs.Rounds.{rounds, Finishes, Delivers, seven}

module _ (n p w v : ℕ) (e : Bool) where
  -- By the places of a list: d is what stands past its end.
  module _ (d : Moment) where
    abbrev at : Bus → List ℕ → ℕ → Moment
    at b xs k = get_or (history b (steps xs)) k d

    abbrev Says : Event → Moment → Type 0
    Says x o = (o.call ≡ step_of p) × (o.answer.event ≡ x) × (o.answer.byte ≡ v) × (o.answer.end ≡ e)

    abbrev Calm : Moment → Type 0
    Calm o = (is_end o.answer.event ≡ false) × (o.answer.broken ≡ 0)

    abbrev Mute : Moment → Type 0
    Mute o = is_put o.answer.event ≡ false

    -- what holds of the first, and of the rest, holds of all
    earlier : (R : Moment → Type 0) (b : Bus) (i : ℕ) (xs : List ℕ) (k : ℕ) → R (at b (i ∷ xs) 0)
        → ((j : ℕ) → j < k → R (at (m.call b (step_of i)).bus xs j)) → (j : ℕ) → j < suc k → R (at b (i ∷ xs) j)
    earlier R b i xs k r h zero l = r
    earlier R b i xs k r h (suc j) l = h j (le_of_suc-le-suc l)

    record Finish (b : Bus) (xs ys : List ℕ) : Type 0 where
      end : ℕ
      soon : end < length xs
      says : Says ev.Ended (at b (xs ++ ys) end)
      calm : (j : ℕ) → j < end → Calm (at b (xs ++ ys) j)

    finish : (b : Bus) (xs ys : List ℕ) → Finishes n p w v e b xs → Finish b xs ys
    finish b [] ys f = absurd f
    finish b (i ∷ is) ys (inl r) = record {
      end = 0;
      soon = omega arith;
      says = (ap step_of r.0, r.1, r.2, r.3);
      calm = λ j h. absurd (not-suc-le-zero h);
    }
    finish b (i ∷ is) ys (inr r) = let g = finish (m.call b (step_of i)).bus is ys r.1 in record {
      end = suc g.end;
      soon = let z = g.soon in omega arith;
      says = g.says;
      calm = earlier Calm b i (is ++ ys) g.end r.0 g.calm;
    }

    record Deliver (b : Bus) (xs ys : List ℕ) : Type 0 where
      put : ℕ
      end : ℕ
      later : put < end
      soon : end < length xs
      put_says : Says ev.Data (at b (xs ++ ys) put)
      end_says : Says ev.Ended (at b (xs ++ ys) end)
      mute : (j : ℕ) → j < put → Mute (at b (xs ++ ys) j)
      calm : (j : ℕ) → put < j → j < end → Calm (at b (xs ++ ys) j)

    deliver : (b : Bus) (xs ys : List ℕ) → Delivers n p w v e b xs → Deliver b xs ys
    deliver b [] ys f = absurd f
    deliver b (i ∷ is) ys (inl r) = let g = finish (m.call b (step_of i)).bus is ys r.1 in record {
      put = 0;
      end = suc g.end;
      later = omega arith;
      soon = let z = g.soon in omega arith;
      put_says = (ap step_of r.0.0, r.0.1, r.0.2, r.0.3);
      end_says = g.says;
      mute = λ j h. absurd (not-suc-le-zero h);
      calm = λ j a l. after g.end g.calm j a l;
    }
      where
        after : (k : ℕ) → ((j : ℕ) → j < k → Calm (at (m.call b (step_of i)).bus (is ++ ys) j)) → (j : ℕ) → 0 < j
            → j < suc k → Calm (at b (i ∷ (is ++ ys)) j)
        after k h zero a l = absurd (not-suc-le-zero a)
        after k h (suc j) a l = h j (le_of_suc-le-suc l)
    deliver b (i ∷ is) ys (inr r) = let g = deliver (m.call b (step_of i)).bus is ys r.1 in record {
      put = suc g.put;
      end = suc g.end;
      later = let z = g.later in omega arith;
      soon = let z = g.soon in omega arith;
      put_says = g.put_says;
      end_says = g.end_says;
      mute = earlier Mute b i (is ++ ys) g.put r.0 g.mute;
      calm = λ j a l. between g.put g.end g.calm j a l;
    }
      where
        between : (a k : ℕ) → ((j : ℕ) → a < j → j < k → Calm (at (m.call b (step_of i)).bus (is ++ ys) j)) → (j : ℕ)
            → suc a < j → j < suc k → Calm (at b (i ∷ (is ++ ys)) j)
        between a k h zero x l = absurd (not-suc-le-zero x)
        between a k h (suc j) x l = h j (le_of_suc-le-suc x) (le_of_suc-le-suc l)

  ends_within : (b : Bus) (xs ys : List ℕ) → Delivers n p w v e b xs → EndsWithin b (steps (xs ++ ys)) p v e (length xs)
  ends_within b xs ys D =
      let g = deliver (record { before = b; call = call_of.Lines; answer = accept b }) b xs ys D in
      record {
        put = g.put;
        end = g.end;
        soon = g.soon;
        stands = (
          (inside g.put (let y = g.later in let z = g.soon in omega arith), ap is_put g.put_says.1),
          g.later,
          λ j l u x. calm (moment b (steps (xs ++ ys)) j) (g.calm j l u) x,
        );
        ends = ap is_end g.end_says.1;
        first = λ j l x. mute (moment b (steps (xs ++ ys)) j) (g.mute j l) x.1;
        putter = g.put_says.0;
        put_says = g.put_says.1;
        put_value = g.put_says.2;
        put_end = g.put_says.3;
        ender = g.end_says.0;
        end_says = g.end_says.1;
        end_value = g.end_says.2;
        end_end = g.end_says.3;
      }
    where
      inside : (i : ℕ) → i < length xs → i < length (steps (xs ++ ys))
      inside i l = rw (length-map (xs ++ ys) step_of, length-append xs ys) (omega arith)

      calm : (o : Moment) → (is_end o.answer.event ≡ false) × (o.answer.broken ≡ 0)
          → (is_end o.answer.event ≡ true) ⊎ (o.answer.broken ≡ 1) → ⊥
      calm o h (inl f) = let z = h.0 in no (cc)
      calm o h (inr f) = let z = h.1 in no (cc)

      mute : (o : Moment) → is_put o.answer.event ≡ false → is_put o.answer.event ≡ true → ⊥
      mute o h f = no (cc)

  -- where the request starts from
  waits : (b : Bus) → Inv b → b.count ≡ n → Offered b p w v e → Waits n p w v e b
  waits b I c F = record {
    base = record {
      inv = I;
      count = c;
      there = rw c at F.there;
      quiet = F.quiet;
      talks = F.talks;
      aids = I.pre.listens F.quiet p mute;
    };
    none = nothing_stands b.count (atn_of b) (here b) b.standing I.pre (quiet b I) p source
        (λ h. let z = F.ready in no (cc));
    unpolled = rw (F.quiet, F.talks) at F.unpolled;
    held = F.held;
    source = inl F.ready;
    empty = λ j. test (ltb j b.count) (λ h. F.empty j (ltb-true j b.count h))
        (λ h. ap (λ (x : Party). x.input) (I.pre.tail j (ltb-false j b.count h)));
    part = I.pre.joins F.quiet w F.listens;
  }
    where
      mute : (here b p).role.listen ≡ false
      mute = test (here b p).role.listen (λ h. absurd (I.pre.apart p F.talks h)) (λ h. h)

      idles : is_active (here b p) ≡ false
      idles = test (is_active (here b p)) (λ h. let z = I.pre.atn_if p h in let y = F.quiet in no (cc)) (λ h. h)

      source : is_source (atn_of b) (here b p) ≡ true
      source = rw (F.quiet, idles, F.talks) refl

-- The turns of a run by rounds: k rounds of l turns, and r turns more.
abbrev times : ℕ → ℕ → ℕ → ℕ
times zero l r = r
times (suc k) l r = l + times k l r

rota_rounds : (k : ℕ) (q : List ℕ) (r : ℕ) → rota (times k (length q) r) q ≡ (rounds k q ++ rota r q)
rota_rounds zero q r = refl
rota_rounds (suc k) q r = rota_round q (times k (length q) r) ∙ ap (λ (l : List ℕ). q ++ l) (rota_rounds k q r)
    ∙ sym (append_assoc q (rounds k q) (rota r q))

rounds_length : (k : ℕ) (q : List ℕ) → length (rounds k q) ≡ times k (length q) 0
rounds_length zero q = refl
rounds_length (suc k) q = length-append q (rounds k q) ∙ ap (λ (x : ℕ). length q + x) (rounds_length k q)

-- Seven rounds of any list that has every place, and whatever turns follow.
bound_rounds : (b : Bus) → Inv b → (p w v : ℕ) (e : Bool) → Offered b p w v e → (round ys : List ℕ)
    → ((k : ℕ) → member k round ≡ ltb k b.count)
    → EndsWithin b (steps (rounds 7 round ++ ys)) p v e (length (rounds 7 round))
bound_rounds b I p w v e F round ys cover = ends_within b.count p w v e b (rounds 7 round) ys
    (seven b.count p w v e round cover b (waits b.count p w v e b I refl F))

bound_from : (b : Bus) → Inv b → (tie : TieOrder) → Orders tie b.count → EndsSoon tie b
bound_from b I tie O p w v e F t l = subst (λ (xs : List ℕ). EndsWithin b (steps xs) p v e (7 * n)) (sym split)
    (subst (λ (x : ℕ). EndsWithin b (steps (rounds 7 q ++ rota (t - 7 * n) q)) p v e x) size
    (bound_rounds b I p w v e F q (rota (t - 7 * n) q) (order_member tie n)))
  where
    n : ℕ
    n = b.count

    q : List ℕ
    q = in_order tie n

    some : 0 < n
    some = let z = F.there in omega arith

    size : length (rounds 7 q) ≡ 7 * n
    size = rounds_length 7 q ∙ (let z = order_length tie n in omega arith)

    whole : t ≡ times 7 (length q) (t - 7 * n)
    whole = let z = order_length tie n in omega arith

    split : turns_of tie b t ≡ (rounds 7 q ++ rota (t - 7 * n) q)
    split = turns_of_lem tie b some I.small t ∙ turns_order tie n O some t ∙ ap (λ (x : ℕ). rota x q) whole
        ∙ rota_rounds 7 q (t - 7 * n)

pub bound : Bound
bound b led = bound_from b (led_inv b led)

pub bound_by_address : BoundByAddress
bound_by_address b led = bound b led (by_address b) (address_orders b b.count)
