-- Turns of acceptors in any order.
-- Assumes nothing.
use mathlib.Core.Path.{◌≡◌, refl, sym, ap, ◌∙◌, subst}
use mathlib.Core.Bool.{Bool, true, false, cond}
use mathlib.Core.List.{List, [], ◌∷◌, ◌++◌}
use Prim.Native.Nat.{ℕ, zero, suc, ◌+◌, ◌<◌}
use native.Mathlib.Omega.{arith}
use native.Mathlib.Nat.{not-suc-le-zero}
use lib.Dec.{eqb}
use lib.ListN.{replicate}
use lib.Seq.{ext_get_or}
use borrow.Author.Tests.{eqb-true, eqb-false, eq-eqb, ne_eqb}
use Rattle.role.proofs.Logic.{test}
use Rattle.party.specs.Parts.{idle}
use Rattle.party.specs.Sending.{is_source}
use Rattle.bus.specs.declared.Bus.{Bus}
use Rattle.bus.specs.Types.{Call}
use Rattle.bus.specs.Record.{here}
use Rattle.bus.specs.Rows.{Report, report_of}
use Rattle.bus.specs.Machine as m
use Rattle.bus.proofs.Invariant.{Inv, atn_of}
use Rattle.bus.proofs.EachCall.{call_good, run_inv}
use Rattle.runner.specs.Runner.{step_of, steps}
use Rattle.runner.proofs.Led.{led_inv}
use Rattle.runner.proofs.Lists.{run_append}
use Rattle.order_laws.specs.Orders.{NoSource, after_turn, Swap, turns_in, SameTurns, NoSources, is_of, is_nobodys}
use Rattle.order_laws.specs.Orders.{reports_of, SameDumps, AnyOrder, Reordered, end, same, turns, TurnOrderUnseen}
use Rattle.order_laws.specs.Orders.{ByItself, EachByItself}
use Rattle.order_laws.proofs.Alike.{inv_after, Around, around_same, around_trans, Alike, alike_same, alike_trans}
use Rattle.order_laws.proofs.Alike.{around_after, alike_other, source_kept, still_none, alike_after, same_answer}

-- the turns of a party in a list with one turn more
pub own_turn : (k x : ℕ) (xs : List ℕ) → k ≡ x → turns_in k (x ∷ xs) ≡ suc (turns_in k xs)
own_turn k x xs e = rw (eq-eqb k x e) (omega arith)

pub other_turn : (k x : ℕ) (xs : List ℕ) → (k ≡ x → ⊥) → turns_in k (x ∷ xs) ≡ turns_in k xs
other_turn k x xs ne = rw (ne_eqb k x ne) (omega arith)

-- lists of parties that are no sources
pub nobody : (b : Bus) → NoSources b []
nobody b k h = absurd (not-suc-le-zero h)

pub no_more : (b : Bus) (x : ℕ) (xs : List ℕ) → NoSource b x → NoSources b xs → NoSources b (x ∷ xs)
no_more b x xs n N k h = test (eqb k x) (λ e. subst (NoSource b) (sym (eqb-true k x e)) n)
    (λ e. N k (let z = other_turn k x xs (eqb-false k x e) in omega arith))

-- n turns of party k and of nobody else: the bus after them, and the answers
abbrev left_by_own_turns : Bus → ℕ → ℕ → Bus
left_by_own_turns b k n = m.run b (steps (replicate n k))

abbrev gets : Bus → ℕ → ℕ → List Report
gets b k n = reports_of (is_of k) b (steps (replicate n k))

-- What is alike to a party stays so through any number of its own turns, and they have the same answers.
record Kept (k n : ℕ) (b c : Bus) : Type 0 where
  bus : Alike k (left_by_own_turns b k n) (left_by_own_turns c k n)
  answers : gets b k n ≡ gets c k n

one_more : (n k : ℕ) (b c : Bus) → Kept k n (after_turn b k) (after_turn c k)
    → report_of (m.call b (step_of k)) ≡ report_of (m.call c (step_of k)) → Kept k (suc n) b c
one_more n k b c R e = record {
  bus = R.bus;
  answers = rw (eq-eqb k k refl) (ap (λ (r : Report). r ∷ gets (after_turn b k) k n) e
      ∙ ap (λ (rs : List Report). report_of (m.call c (step_of k)) ∷ rs) R.answers);
}

alike_by_itself : (n k : ℕ) (b c : Bus) → Inv b → Inv c → Alike k b c → (0 < n → NoSource b k) → Kept k n b c
alike_by_itself zero k b c I J S h = record { bus = S; answers = refl }
alike_by_itself (suc n) k b c I J S h =
    let s = h (omega arith) in
    one_more n k b c
    (alike_by_itself n k (after_turn b k) (after_turn c k) (inv_after b I k) (inv_after c J k) (alike_after k b c I J S
    s)
    (λ _. still_none b I k s k s))
    (same_answer k b c I J S s)

-- One turn more, of party x, before a list.
module _ (b : Bus) (I : Inv b) (x : ℕ) (xs : List ℕ) (N : NoSources b (x ∷ xs)) where
  first_none : NoSource b x
  first_none = N x (let z = own_turn x x xs refl in omega arith)

  rest_none : NoSources (after_turn b x) xs
  rest_none k h = still_none b I x first_none k (N k (omega arith))

  -- Another party does not see it.
  unseen : (k : ℕ) → (k ≡ x → ⊥) → Kept k (turns_in k xs) (after_turn b x) b
  unseen k ne = alike_by_itself (turns_in k xs) k (after_turn b x) b (inv_after b I x) I
      (alike_other b I x first_none k ne) (λ h. still_none b I x first_none k (N k (omega arith)))

-- Each party comes to what its own turns alone would bring it to, and has their answers.
record Comes (b : Bus) (xs : List ℕ) (k : ℕ) : Type 0 where
  bus : Alike k (m.run b (steps xs)) (left_by_own_turns b k (turns_in k xs))
  answers : reports_of (is_of k) b (steps xs) ≡ gets b k (turns_in k xs)

comes_own : (b : Bus) (x : ℕ) (xs : List ℕ) → Comes (after_turn b x) xs x → Comes b (x ∷ xs) x
comes_own b x xs R =
    let z : suc (turns_in x xs) ≡ 1 + turns_in x xs = omega arith in
    record {
      bus = rw (eq-eqb x x refl, sym z) R.bus;
      answers = rw (eq-eqb x x refl, sym z, eq-eqb x x refl)
          (ap (λ (rs : List Report). report_of (m.call b (step_of x)) ∷ rs) R.answers);
    }

comes_more : (b : Bus) (I : Inv b) (x : ℕ) (xs : List ℕ) (N : NoSources b (x ∷ xs)) (k : ℕ)
    → Comes (after_turn b x) xs k → Comes b (x ∷ xs) k
comes_more b I x xs N k R = test (eqb k x) own other
  where
    own : eqb k x ≡ true → Comes b (x ∷ xs) k
    own e = subst (λ (j : ℕ). Comes (after_turn b x) xs j → Comes b (x ∷ xs) j) (sym (eqb-true k x e))
        (comes_own b x xs) R

    other : eqb k x ≡ false → Comes b (x ∷ xs) k
    other e =
        let U = unseen b I x xs N k (eqb-false k x e) in
        let z : turns_in k xs ≡ 0 + turns_in k xs = omega arith in
        record {
          bus = rw (e, sym z) (alike_trans k (m.run (after_turn b x) (steps xs))
              (left_by_own_turns (after_turn b x) k (turns_in k xs)) (left_by_own_turns b k (turns_in k xs)) R.bus
              U.bus);
          answers = rw (e, sym z) (R.answers ∙ U.answers);
        }

comes : (xs : List ℕ) (b : Bus) → Inv b → NoSources b xs → (k : ℕ) → Comes b xs k
comes [] b I N k = record { bus = alike_same k b; answers = refl }
comes (x ∷ xs) b I N k = comes_more b I x xs N k
    (comes xs (after_turn b x) (inv_after b I x) (rest_none b I x xs N) k)

-- all else stays
stays : (xs : List ℕ) (b : Bus) → Inv b → NoSources b xs → Around (m.run b (steps xs)) b
stays [] b I N = around_same b
stays (x ∷ xs) b I N = around_trans (m.run (after_turn b x) (steps xs)) (after_turn b x) b
    (stays xs (after_turn b x) (inv_after b I x) (rest_none b I x xs N))
    (around_after b I x (first_none b I x xs N))

sources : (xs : List ℕ) (b : Bus) → Inv b → NoSources b xs → (k : ℕ)
    → is_source (atn_of (m.run b (steps xs))) (here (m.run b (steps xs)) k) ≡ is_source (atn_of b) (here b k)
sources [] b I N k = refl
sources (x ∷ xs) b I N k = sources xs (after_turn b x) (inv_after b I x) (rest_none b I x xs N) k
    ∙ source_kept b I x (first_none b I x xs N) k

by_itself : (b : Bus) → Inv b → (xs : List ℕ) → NoSources b xs → ByItself b xs
by_itself b I xs N = record {
  party = λ k. (comes xs b I N k).bus.party;
  answers = λ k. (comes xs b I N k).answers;
  count = (stays xs b I N).count;
  system = (stays xs b I N).system;
  standing = (stays xs b I N).standing;
  source = sources xs b I N;
}

pub each_by_itself : EachByItself
each_by_itself b led xs N = by_itself b (led_inv b led) xs N

-- Turns name a party each.
no_others : (xs : List ℕ) (b : Bus) → reports_of is_nobodys b (steps xs) ≡ []
no_others [] b = refl
no_others (x ∷ xs) b = no_others xs (after_turn b x)

-- Two lists of the same turns.
module _ (b : Bus) (I : Inv b) (xs ys : List ℕ) (N : NoSources b xs) (T : SameTurns xs ys) where
  A : ByItself b xs
  A = by_itself b I xs N

  B : ByItself b ys
  B = by_itself b I ys (λ k h. N k (let t = T k in omega arith))

  same_bus : m.run b (steps xs) ≡ m.run b (steps ys)
  same_bus = whole (m.run b (steps xs)) (m.run b (steps ys)) (A.count ∙ sym B.count) (A.system ∙ sym B.system)
      (A.standing ∙ sym B.standing)
      (ext_get_or idle (m.run b (steps xs)).parties (m.run b (steps ys)).parties
      ((run_inv b I (steps xs)).size ∙ sym (run_inv b I (steps ys)).size)
      (λ k _. A.party k ∙ ap (λ (n : ℕ). here (left_by_own_turns b k n) k) (T k) ∙ sym (B.party k)))
    where
      whole : (c d : Bus) → c.count ≡ d.count → c.system ≡ d.system → c.standing ≡ d.standing
          → c.parties ≡ d.parties → c ≡ d
      whole c d p q r s = λ i. record { parties = s i; count = p i; system = q i; standing = r i }

  same_dumps : SameDumps b (steps xs) (steps ys)
  same_dumps = record {
    bus = same_bus;
    answers = λ k. A.answers k ∙ ap (λ (n : ℕ). gets b k n) (T k) ∙ sym (B.answers k);
    nobodys = no_others xs b ∙ sym (no_others ys b);
  }

pub any_order : AnyOrder
any_order b led xs ys N T = same_dumps b (led_inv b led) xs ys N T

-- Two parties.
pub swap : Swap
swap b led i j ne n m = record {
  bus = (any_order b led (i ∷ j ∷ []) (j ∷ i ∷ []) (no_more b i (j ∷ []) n (no_more b j [] m (nobody b)))
      (λ k. omega arith)).bus;
  one = sym (same_answer i (after_turn b j) b (inv_after b I j) I (alike_other b I j m i ne) (still_none b I j m i n));
  other = same_answer j (after_turn b i) b (inv_after b I i) I (alike_other b I i n j (λ e. ne (sym e)))
      (still_none b I i n j m);
}
  where
    I : Inv b
    I = led_inv b led

-- Lists of any calls.
reports_append : (these : Call → Bool) (cs ds : List Call) (b : Bus)
    → reports_of these b (cs ++ ds) ≡ (reports_of these b cs ++ reports_of these (m.run b cs) ds)
reports_append these [] ds b = refl
reports_append these (c ∷ cs) ds b = test (these c) (λ e. rw (e, reports_append these cs ds (m.call b c).bus) refl)
    (λ e. rw (e, reports_append these cs ds (m.call b c).bus) refl)

module _ (b : Bus) (c : Call) (cs ds : List Call) (R : SameDumps (m.call b c).bus cs ds) where
  one_call : SameDumps b (c ∷ cs) (c ∷ ds)
  one_call = record {
    bus = R.bus;
    answers = λ k. ap (λ (rs : List Report). cond (is_of k c) (report_of (m.call b c) ∷ rs) rs) (R.answers k);
    nobodys = ap (λ (rs : List Report). cond (is_nobodys c) (report_of (m.call b c) ∷ rs) rs) R.nobodys;
  }

module _ (b : Bus) (us vs cs ds : List Call) (S : SameDumps b us vs) (R : SameDumps (m.run b us) cs ds) where
  joined_reports : (these : Call → Bool) → reports_of these b us ≡ reports_of these b vs
      → reports_of these (m.run b us) cs ≡ reports_of these (m.run b us) ds
      → reports_of these b (us ++ cs) ≡ reports_of these b (vs ++ ds)
  joined_reports these e f = reports_append these us cs b
      ∙ ap (λ (rs : List Report). rs ++ reports_of these (m.run b us) cs) e
      ∙ ap (λ (rs : List Report). reports_of these b vs ++ rs) f
      ∙ ap (λ (c : Bus). reports_of these b vs ++ reports_of these c ds) S.bus
      ∙ sym (reports_append these vs ds b)

  joined : SameDumps b (us ++ cs) (vs ++ ds)
  joined = record {
    bus = run_append b us cs ∙ R.bus ∙ ap (λ (c : Bus). m.run c ds) S.bus ∙ sym (run_append b vs ds);
    answers = λ k. joined_reports (is_of k) (S.answers k) (R.answers k);
    nobodys = joined_reports is_nobodys S.nobodys R.nobodys;
  }

unseen_in : (b : Bus) (cs ds : List Call) → Inv b → Reordered b cs ds → SameDumps b cs ds
unseen_in b _ _ I end = record { bus = refl; answers = λ k. refl; nobodys = refl }
unseen_in b _ _ I (same {cs = cs} {ds = ds} c r) = one_call b c cs ds
    (unseen_in (m.call b c).bus cs ds (call_good b I c).inv r)
unseen_in b _ _ I (turns {cs = cs} {ds = ds} xs ys N T r) = joined b (steps xs) (steps ys) cs ds
    (same_dumps b I xs ys N T) (unseen_in (m.run b (steps xs)) cs ds (run_inv b I (steps xs)) r)

pub turn_order_unseen : TurnOrderUnseen
turn_order_unseen b led cs ds r = unseen_in b cs ds (led_inv b led) r
