-- The longest waiting: one place goes before all others, and the definition finds it.
-- Assumes nothing.
use mathlib.Core.Path.{◌≡◌}
use mathlib.Core.Bool.{true, cond, ◌&&◌, ◌||◌}
use mathlib.Core.List.{List}
use Prim.Native.Nat.{ℕ, zero, suc, ◌≤◌, ◌<◌}
use native.Mathlib.Omega.{arith}
use lib.ListN.{length}
use lib.Dec.{ltb, eqb}
use Rattle.std.proofs.lemmas.Bool.Decides.{nat_tests}
use Rattle.role.proofs.Logic.{cond-elim}
use Rattle.runner.specs.Waiting.{TieOrder, wait_of, goes_before, longest_of, longest_waiting, Orders, LongestFound}
use Rattle.runner.specs.Ties.{lowest_by}

pub more : (a b : ℕ) → (b < a → ⊥) → (a ≡ b → ⊥) → a < b
more a b h k = omega arith

-- By numbers, the highest first or the lowest, and then by the tie order is an order too.
module _ (tie : TieOrder) (W : ℕ → ℕ) (n : ℕ) (O : Orders tie n) where
  pub highest_orders : Orders (λ x y. ltb (W y) (W x) || (eqb (W x) (W y) && tie x y)) n
  highest_orders = record {
    asym = λ x y lx ly e. let a = O.asym x y lx ly in grind (arith, nat_tests);
    trans = λ x y z lx ly lz e f. let t = O.trans x y z lx ly lz in grind (arith, nat_tests);
    total = λ x y lx ly ne e. let t = O.total x y lx ly ne in grind (arith, nat_tests);
  }

  pub lowest_orders : Orders (lowest_by W tie) n
  lowest_orders = record {
    asym = λ x y lx ly e. let a = O.asym x y lx ly in grind (arith, nat_tests);
    trans = λ x y z lx ly lz e f. let t = O.trans x y z lx ly lz in grind (arith, nat_tests);
    total = λ x y lx ly ne e. let t = O.total x y lx ly ne in grind (arith, nat_tests);
  }

module _ (tie : TieOrder) (ws : List ℕ) (n : ℕ) (O : Orders tie n) where
  abbrev goes_orders : Orders (goes_before tie ws) n
  goes_orders = highest_orders tie (wait_of ws) n O

  -- x goes before every other of the first m
  pub record Best (m x : ℕ) : Type 0 where
    pub inn : x < m
    pub over : (y : ℕ) → y < m → (y ≡ x → ⊥) → goes_before tie ws x y ≡ true

  one_more : (m x : ℕ) → m < n → Best m x → Best (suc m) (cond (goes_before tie ws m x) m x)
  one_more m x l B = let i = B.inn in cond-elim (Best (suc m)) (goes_before tie ws m x)
      (λ e. record {
        inn = omega arith;
        over = λ y h ne. let o = B.over y in
            let t = goes_orders.trans m x y l (omega arith) (omega arith) e in grind (arith, nat_tests);
      })
      (λ e. record {
        inn = omega arith;
        over = λ y h ne. let o = B.over y in
            let t = goes_orders.total m x l (omega arith) (λ f. omega arith) e in grind (arith, nat_tests);
      })

  pub best : (m : ℕ) → 0 < m → m ≤ n → Best m (longest_of tie ws m)
  best zero p l = absurd (omega arith)
  best (suc zero) p l = cond-elim (Best 1) (goes_before tie ws 0 0) (λ _. alone) (λ _. alone)
    where
      alone : Best 1 0
      alone = record { inn = omega arith; over = λ y h ne. absurd (ne (omega arith)) }
  best (suc (suc m)) p l = one_more (suc m) _ (omega arith) (best (suc m) (omega arith) (omega arith))

  -- who goes before all others is the longest waiting
  pub chosen : (x : ℕ) → x < n → ((y : ℕ) → y < n → (y ≡ x → ⊥) → goes_before tie ws x y ≡ true)
      → longest_of tie ws n ≡ x
  chosen x l h = let B = best n (omega arith) (omega arith) in
      let i = B.inn in
      let o = B.over x l in
      let k = h (longest_of tie ws n) i in
      let a = goes_orders.asym (longest_of tie ws n) x i l in grind (arith, nat_tests)

-- The definition finds who has waited longest.
pub longest_waiting_lem : LongestFound
longest_waiting_lem tie ws O p = record {
  there = B.inn;
  longest = λ y l. let o = B.over y l in grind (arith, nat_tests);
  ties = λ y l ne e. let o = B.over y l ne in grind (arith, nat_tests);
}
  where
    B : Best tie ws (length ws) O (length ws) (longest_waiting tie ws)
    B = best tie ws (length ws) O (length ws) p (omega arith)
