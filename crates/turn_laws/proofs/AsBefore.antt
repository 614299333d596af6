-- Parties that are numbered in address order have the turns that they had by place, and no others have.
-- Assumes nothing.
use mathlib.Core.Path.{◌≡◌, refl, sym, ap, ◌∙◌}
use mathlib.Core.Bool.{true, false}
use mathlib.Core.Logic.{inl, inr}
use mathlib.Core.List.{List, [], ◌∷◌, ◌++◌}
use Prim.Native.Nat.{ℕ, ◌≤◌, ◌<◌}
use native.Mathlib.Omega.{arith}
use native.Mathlib.Nat.{mod-eq_of_lt}
use lib.ListN.{get_or}
use lib.Dec.{ltb, eqb}
use borrow.Author.Tests.{eqb-true, eqb-false, eq-eqb, ne_eqb, ltb-true, ltb-false, lt-ltb, le-ltb}
use Rattle.role.proofs.Logic.{test, cond-elim, both, or_right}
use Rattle.parties.specs.Places.{within}
use Rattle.parties.proofs.Loops.{within_same}
use Rattle.bus.specs.declared.Bus.{Bus}
use Rattle.bus.specs.Machine as m
use Rattle.bus.specs.Delivery.{history}
use Rattle.bus.specs.Types.{Name, Call}
use Rattle.runner.specs.Waiting.{TieOrder, by_place, turns, in_order, Orders}
use Rattle.runner.specs.Runner.{steps, turns_of, give_turns}
use Rattle.runner.specs.Lists.{call, run}
use Rattle.runner.specs.Ties.{name_at, primary_at, rank, secondary_at, lowest_by, by_address}
use Rattle.turn_laws.specs.Numbering.{IsBefore, FirstRound, Numbered, AsBefore, AlwaysAsBefore, OnlyAsBefore}
use Rattle.runner.proofs.Members.{chain_at}
use Rattle.runner.proofs.Queue.{rota}
use Rattle.runner.proofs.InOrder.{place_orders, order_length, order_chain, turns_order, same_order}
use Rattle.runner.proofs.InOrder.{round_robin, turn_by_place}
use Rattle.runner.proofs.ByAddress.{address_orders}
use Rattle.runner.proofs.Giving.{some_within}
use Rattle.runner.proofs.Lists.{call_count}
use Rattle.turn_laws.proofs.Named.{call_names}

some_turns : (b : Bus) → eqb b.count 0 ≡ false → 0 < within b.count
some_turns b e = some_within b.count (eqb-false b.count 0 e)

few : (n : ℕ) → within n ≤ n
few n = cond-elim (λ (x : ℕ). x ≤ n) (ltb n 15) (λ _. omega arith) (λ e. let z = ltb-false n 15 e in omega arith)

-- What the order says, in words.
module _ (b : Bus) (x y : ℕ) where
  abbrev p : ℕ → ℕ
  p z = primary_at b z

  abbrev s : ℕ → ℕ
  s z = secondary_at b z

  pub is_before : by_address b x y ≡ true → IsBefore b x y
  is_before h = test (ltb (p x) (p y)) (λ e. inl (ltb-true (p x) (p y) e))
      (λ e. let z = both (eqb (p y) (p x)) (lowest_by s by_place x y) (rw e at h) in
      inr (
        sym (eqb-true (p y) (p x) z.0),
        test (ltb (s x) (s y)) (λ f. inl (ltb-true (s x) (s y) f))
            (λ f. let w = both (eqb (s y) (s x)) (by_place x y) (rw f at z.1) in
            inr (sym (eqb-true (s y) (s x) w.0), ltb-true x y w.1)),
      ))

  pub comes_before : IsBefore b x y → by_address b x y ≡ true
  comes_before (inl h) = rw (lt-ltb (p x) (p y) h) refl
  comes_before (inr (e, inl h)) = or_right (ltb (p x) (p y))
      (rw (eq-eqb (p y) (p x) (sym e), lt-ltb (s x) (s y) h) refl)
  comes_before (inr (e, inr (f, h))) = or_right (ltb (p x) (p y)) (rw (eq-eqb (p y) (p x) (sym e))
      (or_right (ltb (s x) (s y)) (rw (eq-eqb (s y) (s x) (sym f), lt-ltb x y h) refl)))

-- It is a matter of the two names, and of the places where these are one.
pub named_before : (b c : Bus) (x y u v : ℕ) → name_at c u ≡ name_at b x → name_at c v ≡ name_at b y
    → (primary_at b x ≡ primary_at b y → secondary_at b x ≡ secondary_at b y → x < y → u < v) → IsBefore b x y
    → IsBefore c u v
named_before b c x y u v e h last B = go B
  where
    p : {m k : Name} → m ≡ k → m.address.0 ≡ k.address.0
    p = ap (λ (a : Name). a.address.0)

    s : {m k : Name} → m ≡ k → rank m.secondary ≡ rank k.secondary
    s = ap (λ (a : Name). rank a.secondary)

    go : IsBefore b x y → IsBefore c u v
    go (inl a) = inl (rw (p e, p h) a)
    go (inr (d, inl a)) = inr (p e ∙ d ∙ sym (p h), inl (rw (s e, s h) a))
    go (inr (d, inr (f, a))) = inr (p e ∙ d ∙ sym (p h), inr (s e ∙ f ∙ sym (s h), last d f a))

same_turns : (b : Bus) → Numbered b → (t : ℕ) → turns_of (by_address b) b t ≡ turns_of by_place b t
same_turns b N t = test (eqb b.count 0) (λ e. rw e refl)
    (λ e. rw e (turns_order (by_address b) n (address_orders b n) (some_turns b e) t
    ∙ ap (rota t) (same_order (by_address b) by_place n later)
    ∙ sym (turns_order by_place n (place_orders n) (some_turns b e) t)))
  where
    n : ℕ
    n = within b.count

    later : (x y : ℕ) → y < x → x < n → by_address b x y ≡ by_place x y
    later x y l k = (address_orders b n).asym y x (omega arith) k
        (comes_before b y x (N y x l (let z = few b.count in omega arith)))
        ∙ sym (le-ltb x y (omega arith))

pub as_before : AsBefore
as_before b N t = let e = same_turns b N t in record {
  turns = e;
  answers = ap (λ (xs : List ℕ). history b (steps xs)) e;
  given = rw e refl;
}

-- the turns of a bus, where there are as many places as parties
pub turns_of_lem : (tie : TieOrder) (b : Bus) → 0 < b.count → b.count ≤ 15 → (t : ℕ)
    → turns_of tie b t ≡ turns tie b.count t
turns_of_lem tie b l k t = rw (ne_eqb b.count 0 (λ f. omega arith), fits) refl
  where
    fits : within b.count ≡ b.count
    fits = within_same (λ (n : ℕ). n) b.count (λ h. omega arith)

pub first_round : FirstRound
first_round b small t i j l k u = is_before b _ _ (rw (at i (omega arith) (omega arith), at j k u)
    (chain_at (by_address b) q (order_chain (by_address b) n O n (omega arith)) i j l
    (rw (order_length (by_address b) n) k)))
  where
    n : ℕ
    n = b.count

    q : List ℕ
    q = in_order (by_address b) n

    O : Orders (by_address b) n
    O = address_orders b n

    at : (i : ℕ) → i < n → i < t → get_or (turns_of (by_address b) b t) i 0 ≡ get_or q i 0
    at i a c = ap (λ (xs : List ℕ). get_or xs i 0) (turns_of_lem (by_address b) b (omega arith) small t)
        ∙ (round_robin (by_address b) n O (omega arith) t).turn i c ∙ ap (λ (x : ℕ). get_or q x 0) (mod-eq_of_lt a)

-- the first round by place is 0, 1, 2, ..
pub only_as_before : OnlyAsBefore
only_as_before b small e x y l k =
    rw (here x (omega arith), here y k) at (first_round b small b.count x y l k k)
  where
    here : (j : ℕ) → j < b.count → get_or (turns_of (by_address b) b b.count) j 0 ≡ j
    here j u = ap (λ (xs : List ℕ). get_or xs j 0) (e ∙ turns_of_lem by_place b (omega arith) small b.count)
        ∙ turn_by_place b.count (omega arith) b.count j u ∙ mod-eq_of_lt u

-- No call changes a name, so the parties stay numbered in address order.
call_numbered : (b : Bus) (c : Call) → Numbered b → Numbered (m.call b c).bus
call_numbered b c N x y l k = named_before b (m.call b c).bus x y x y (call_names b c x) (call_names b c y)
    (λ _ _ h. h) (N x y l (rw (call_count b c) at k))

run_numbered : (b : Bus) (cs : List Call) → Numbered b → Numbered (m.run b cs)
run_numbered b [] N = N
run_numbered b (c ∷ cs) N = run_numbered (m.call b c).bus cs (call_numbered b c N)

pub always_as_before : AlwaysAsBefore
always_as_before b N [] = (refl, refl)
always_as_before b N (call c ∷ xs) = let r = always_as_before (m.call b c).bus (call_numbered b c N) xs in
    (ap (λ (cs : List Call). c ∷ cs) r.0, r.1)
always_as_before b N (run t ∷ xs) =
    let r = always_as_before (give_turns (by_address b) b t).bus
    (run_numbered b (steps (turns_of (by_address b) b t)) N) xs in
    rw (← (as_before b N t).turns) (ap (λ (cs : List Call). steps (turns_of (by_address b) b t) ++ cs) r.0, r.1)
