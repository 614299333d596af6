-- The queue of the waiting: the places in the order in which they have their turns. A turn takes the first and puts it
-- last.
-- Assumes nothing.
use mathlib.Core.Path.{◌≡◌, refl, sym, ap, ◌∙◌}
use mathlib.Core.Bool.{true, false, or_comm, or-false}
use mathlib.Core.List.{List, [], ◌∷◌, ◌++◌, map}
use Prim.Native.Nat.{ℕ, zero, suc, ◌<◌}
use native.Mathlib.Omega.{arith}
use lib.ListN.{length, replicate, length-set, length-map, length-replicate}
use lib.Seq.{get_or-set_same, get_or-set_other}
use lib.Dec.{ltb, eqb}
use borrow.Author.Tests.{ltb-true, lt-ltb}
use Rattle.std.proofs.lemmas.List.{get_or-map}
use Rattle.std.proofs.lemmas.Bool.Decides.{nat_tests}
use Rattle.std.proofs.lemmas.Grind.{common_steps}
use Rattle.role.proofs.Logic.{no, or_right}
use Rattle.runner.specs.Waiting.{TieOrder, wait_of, goes_before, longest_waiting, waited, turns_from, Orders}
use Rattle.runner.proofs.Members.{member, distinct, Chain, first_in, member_append, split, apart}
use Rattle.runner.proofs.Members.{distinct_snoc, chain_snoc, chain_map}
use Rattle.runner.proofs.Longest.{chosen}

pub record Queue (tie : TieOrder) (n : ℕ) (ws : List ℕ) (q : List ℕ) : Type 0 where
  pub size : length ws ≡ n
  pub members : (k : ℕ) → member k q ≡ ltb k n
  pub once : distinct q ≡ true
  pub chain : Chain (goes_before tie ws) q

-- turns by turning the queue
abbrev pub rota : ℕ → List ℕ → List ℕ
rota zero q = []
rota (suc t) [] = []
rota (suc t) (x ∷ xs) = x ∷ rota t (xs ++ (x ∷ []))

module _ (tie : TieOrder) (n : ℕ) (O : Orders tie n) where
  module _ (ws : List ℕ) (x : ℕ) (xs : List ℕ) (Q : Queue tie n ws (x ∷ xs)) where
    inside : (y : ℕ) → member y (x ∷ xs) ≡ true → y < n
    inside y e = ltb-true y n (sym (Q.members y) ∙ e)

    head_in : x < n
    head_in = inside x (first_in x xs)

    alone : (member x xs ≡ false) × (distinct xs ≡ true)
    alone = split (member x xs) (distinct xs) Q.once

    head_chosen : longest_waiting tie ws ≡ x
    head_chosen = rw Q.size (chosen tie ws n O x head_in
        (λ y l ne. let m = Q.members y in let o = Q.chain.0 y in grind (arith, nat_tests)))

    later : (y : ℕ) → member y xs ≡ true → wait_of (waited x ws) y ≡ suc (wait_of ws y)
    later y e = get_or-set_other (map suc ws) x y 0 0 (apart xs x y alone.0 e)
        ∙ get_or-map suc ws y 0 0 (rw Q.size (inside y (or_right (eqb y x) e)))

    first : wait_of (waited x ws) x ≡ 0
    first = get_or-set_same (map suc ws) x 0 0 (let h = head_in in let z = Q.size in rw length-map (omega arith))

    moved : Queue tie n (waited x ws) (xs ++ (x ∷ []))
    moved = record {
      size = length-set (map suc ws) x 0 ∙ length-map ws suc ∙ Q.size;
      members = λ k. member_append k xs (x ∷ []) ∙ rw (or-false (eqb k x)) (or_comm (member k xs) (eqb k x))
          ∙ Q.members k;
      once = distinct_snoc xs x alone.0 alone.1;
      chain = chain_snoc (goes_before tie (waited x ws)) xs x
          (chain_map (goes_before tie ws) (goes_before tie (waited x ws)) xs
          (λ y z e f g. let a = later y e in let b = later z f in grind (arith, nat_tests)) Q.chain.1)
          (λ y e. let a = later y e in let z = first in grind (arith, nat_tests));
    }

  pub turns_rota : 0 < n → (t : ℕ) (ws q : List ℕ) → Queue tie n ws q → turns_from tie t ws ≡ rota t q
  turns_rota l zero ws q Q = refl
  turns_rota l (suc t) ws [] Q = let z = Q.members 0 in let y = lt-ltb 0 n l in no (cc)
  turns_rota l (suc t) ws (x ∷ xs) Q = rw (head_chosen ws x xs Q)
      (ap (λ (r : List ℕ). x ∷ r) (turns_rota l t (waited x ws) (xs ++ (x ∷ [])) (moved ws x xs Q)))

pub wait_zero : (n x : ℕ) → wait_of (replicate n 0) x ≡ 0
wait_zero n x = grind (arith, common_steps)

-- where all wait equally long, any list of the places in the tie order is the queue
pub start_queue : (tie : TieOrder) (n : ℕ) (q : List ℕ) → ((k : ℕ) → member k q ≡ ltb k n) → distinct q ≡ true
    → Chain tie q → Queue tie n (replicate n 0) q
start_queue tie n q m d c = record {
  size = length-replicate n 0;
  members = m;
  once = d;
  chain = chain_map tie (goes_before tie (replicate n 0)) q
      (λ x y e f g. let a = wait_zero n x in let b = wait_zero n y in grind (arith, nat_tests)) c;
}
