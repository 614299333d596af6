-- However the parties are numbered, the turns go to the same addresses: the order of one bus, renumbered, is that of
-- the other.
-- Assumes nothing.
use mathlib.Core.Path.{◌≡◌, refl, sym, ap, ◌∙◌}
use mathlib.Core.Bool.{true}
use mathlib.Core.List.{List, [], ◌∷◌, ◌++◌, map, map-append}
use Prim.Native.Nat.{ℕ, zero, suc, ◌<◌, ◌≤◌}
use native.Mathlib.Omega.{arith}
use lib.Dec.{ltb, eqb}
use borrow.Author.Tests.{eqb-true, eqb-false, eq-eqb, ltb-true, ltb-false, lt-ltb}
use Rattle.std.specs.Prelude.{Option, Some, None}
use Rattle.role.proofs.Logic.{no, test, or_right}
use Rattle.names.specs.Names.{meets}
use Rattle.names.proofs.Clashes.{same_clash}
use Rattle.bus.specs.declared.Bus.{Bus}
use Rattle.bus.proofs.Invariant.{Inv}
use Rattle.runner.specs.Waiting.{TieOrder, turns, in_order, Orders}
use Rattle.runner.specs.Ties.{name_at, primary_at, secondary_at, rank, by_address}
use Rattle.turn_laws.specs.Numbering.{Renumbered, SameAddresses}
use Rattle.runner.proofs.Members.{member, distinct, Chain, first_in, or_other}
use Rattle.runner.proofs.Longest.{more}
use Rattle.runner.proofs.Queue.{rota, turns_rota, start_queue}
use Rattle.runner.proofs.InOrder.{order_member, order_chain, turns_order}
use Rattle.runner.proofs.ByAddress.{address_orders}
use Rattle.turn_laws.proofs.AsBefore.{turns_of_lem, is_before, comes_before, named_before}
use Rattle.runner.proofs.Led.{led_inv}
use Rattle.message.specs.declared.SecondaryAddress.{SecondaryAddress}

-- lists, with another number for each place

rota_map : (f : ℕ → ℕ) (t : ℕ) (q : List ℕ) → rota t (map f q) ≡ map f (rota t q)
rota_map f zero q = refl
rota_map f (suc t) [] = refl
rota_map f (suc t) (x ∷ xs) = ap (λ (l : List ℕ). f x ∷ l)
    (ap (rota t) (sym (map-append f xs (x ∷ []))) ∙ rota_map f t (xs ++ (x ∷ [])))

map_member : (f : ℕ → ℕ) (x : ℕ) (xs : List ℕ) → member x xs ≡ true → member (f x) (map f xs) ≡ true
map_member f x [] h = no (cc)
map_member f x (y ∷ ys) h = test (eqb x y) (λ e. rw (eq-eqb (f x) (f y) (ap f (eqb-true x y e))) refl)
    (λ e. or_right (eqb (f x) (f y)) (map_member f x ys (or_other (eqb x y) (member x ys) h e)))

member_map : (f : ℕ → ℕ) (z : ℕ) (xs : List ℕ) → member z (map f xs) ≡ true
    → (x : ℕ) × (member x xs ≡ true) × (z ≡ f x)
member_map f z [] h = no (cc)
member_map f z (y ∷ ys) h = test (eqb z (f y)) (λ e. (y, first_in y ys, eqb-true z (f y) e))
    (λ e. let r = member_map f z ys (or_other (eqb z (f y)) (member z (map f ys)) h e) in
    (r.0, or_right (eqb r.0 y) r.1, r.2))

chain_renamed : (R S : TieOrder) (f : ℕ → ℕ) (xs : List ℕ)
    → ((x y : ℕ) → member x xs ≡ true → member y xs ≡ true → R x y ≡ true → S (f x) (f y) ≡ true) → Chain R xs
    → Chain S (map f xs)
chain_renamed R S f [] h c = tt
chain_renamed R S f (x ∷ xs) h c = (
  λ y e. let r = member_map f y xs e in
      rw r.2 (h x r.0 (first_in x xs) (or_right (eqb r.0 x) r.1) (c.0 r.0 r.1)),
  chain_renamed R S f xs (λ y z e g. h y z (or_right (eqb y x) e) (or_right (eqb z x) g)) c.1,
)

-- who is in a chain is there once
chain_distinct : (R : TieOrder) (n : ℕ) → Orders R n → (xs : List ℕ) → ((x : ℕ) → member x xs ≡ true → x < n)
    → Chain R xs → distinct xs ≡ true
chain_distinct R n O [] l c = refl
chain_distinct R n O (x ∷ xs) l c = rw (
  test (member x xs) (λ e. let a = c.0 x e in let k = l x (first_in x xs) in let z = O.asym x x k k a in no (cc))
      (λ e. e),
  chain_distinct R n O xs (λ y e. l y (or_right (eqb y x) e)) c.1,
) refl

-- on the buses there are no two parties have one name
same_rank : (x y : Option SecondaryAddress) → rank x ≡ rank y → meets x y ≡ true
same_rank None y e = refl
same_rank (Some s) None e = refl
same_rank (Some s) (Some t) e = eq-eqb s.0 t.0 (omega arith)

module _ (f g : ℕ → ℕ) (b c : Bus) (I : Inv b) (N : Renumbered f g b c) where
  names_differ : (x y : ℕ) → y < b.count → primary_at b x ≡ primary_at b y → secondary_at b x ≡ secondary_at b y → x < y
      → ⊥
  names_differ x y l e h k =
      let z = same_clash (name_at b x) (name_at b y) e (same_rank (name_at b x).secondary (name_at b y).secondary h) in
      let w : x ≡ y = I.pre.addr x y (omega arith) l z in
      omega arith

  same_order : (x y : ℕ) → x < b.count → y < b.count → by_address b x y ≡ true → by_address c (f x) (f y) ≡ true
  same_order x y k l h = comes_before c (f x) (f y) (named_before b c x y (f x) (f y) (N.names x k) (N.names y l)
      (λ e d a. absurd (names_differ x y l e d a)) (is_before b x y h))

  abbrev order : List ℕ
  order = map f (in_order (by_address b) b.count)

  inside : (x : ℕ) → member x (in_order (by_address b) b.count) ≡ true → x < b.count
  inside x e = ltb-true x b.count (sym (order_member (by_address b) b.count x) ∙ e)

  members : (k : ℕ) → member k order ≡ ltb k b.count
  members k = test (ltb k b.count)
      (λ e. let B = N.back k (ltb-true k b.count e) in ap (λ (x : ℕ). member x order) (sym B.1)
      ∙ map_member f (g k) (in_order (by_address b) b.count) (order_member (by_address b) b.count (g k)
      ∙ lt-ltb (g k) b.count B.0) ∙ sym e)
      (λ e. test (member k order)
      (λ h. let r = member_map f k (in_order (by_address b) b.count) h in
      let z = N.there r.0 (inside r.0 r.1) in let y = ltb-false k b.count e in
      absurd (past r.2 z y))
      (λ h. h ∙ sym e))
    where
      past : {j m : ℕ} → k ≡ j → j < m → m ≤ k → ⊥
      past e l h = omega arith

  chain : Chain (by_address c) order
  chain = chain_renamed (by_address b) (by_address c) f (in_order (by_address b) b.count)
      (λ x y e h a. same_order x y (inside x e) (inside y h) a)
      (order_chain (by_address b) b.count (address_orders b b.count) b.count (omega arith))

  once : distinct order ≡ true
  once = chain_distinct (by_address c) b.count (address_orders c b.count) order
      (λ x e. ltb-true x b.count (sym (members x) ∙ e)) chain

  renumbered : 0 < b.count → (t : ℕ) → turns (by_address c) b.count t ≡ map f (turns (by_address b) b.count t)
  renumbered l t = turns_rota (by_address c) b.count (address_orders c b.count) l t _ order
      (start_queue (by_address c) b.count order members once chain)
      ∙ rota_map f t (in_order (by_address b) b.count)
      ∙ ap (map f) (sym (turns_order (by_address b) b.count (address_orders b b.count) l t))

pub same_addresses : SameAddresses
same_addresses f g b c L N t = test (eqb b.count 0) (λ e. rw (N.count, e) refl)
    (λ e. let l = positive (eqb-false b.count 0 e) in
    turns_of_lem (by_address c) c (rw N.count l) (rw N.count I.small) t
    ∙ ap (λ (n : ℕ). turns (by_address c) n t) N.count ∙ renumbered f g b c I N l t
    ∙ ap (map f) (sym (turns_of_lem (by_address b) b l I.small t)))
  where
    I : Inv b
    I = led_inv b L

    positive : (b.count ≡ 0 → ⊥) → 0 < b.count
    positive ne = more 0 b.count (λ h. omega arith) (λ h. ne (sym h))
