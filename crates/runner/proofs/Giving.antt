-- The loop of the runner: how far it has come.
-- Assumes nothing.
use mathlib.Core.Path.{◌≡◌, refl, sym, ap, ◌∙◌}
use mathlib.Core.List.{List, [], ◌∷◌, ◌++◌, map}
use Prim.Native.Nat.{ℕ, ◌+◌, ◌%◌, ◌≤◌, ◌<◌}
use native.Mathlib.Numerals.{add-one}
use native.Mathlib.Omega.{arith}
use native.Mathlib.Nat.{mod-lt}
use lib.ListN.{get_or, set, replicate, take}
use lib.Seq.{take_all, take-suc}
use borrow.Author.Tests.{ne_eqb}
use Rattle.std.proofs.lemmas.Bool.Decides.{nat_tests}
use Rattle.parties.specs.Places.{within}
use Rattle.bus.specs.declared.Bus.{Bus}
use Rattle.bus.specs.declared.Answer.{Answer}
use Rattle.bus.specs.Machine as m
use Rattle.runner.specs.declared.Given.{Given}
use Rattle.runner.specs.Waiting.{turns, in_order, RoundRobin}
use Rattle.runner.specs.Ties.{by_address}
use Rattle.runner.specs.Order.{key_at, place_of_key}
use Rattle.runner.specs.Runner.{step_of, steps, counted, give_turns}
use Rattle.runner.proofs.Queue.{wait_zero}
use Rattle.runner.proofs.InOrder.{round_robin}
use Rattle.runner.proofs.ByAddress.{address_orders, place_said}
use Rattle.runner.proofs.Lists.{run_append, steps_append}
use Rattle.runner.proofs.Counts.{counted_append, turn_adds}
use Rattle.std.specs.Prelude.{Ok}

-- The bus and the counts after t of T turns of n parties, from the bus b, by the order that the keys hold.
pub record Going (b : Bus) (n T : ℕ) (keys counts : List ℕ) (after : Bus) (t : ℕ) : Type 0 where
  pub some : 0 < n
  pub few : n ≤ 15
  pub order : take n keys ≡ map (key_at b) (in_order (by_address b) n)
  pub bus : after ≡ m.run b (steps (take t (turns (by_address b) n T)))
  pub tally : counts ≡ counted (replicate 15 0) (take t (turns (by_address b) n T))
  -- no count is past the turns, so that it fits its number
  pub small : (j : ℕ) → get_or counts j 0 ≤ t

pub some_within : (count : ℕ) → (count ≡ 0 → ⊥) → 0 < within count
some_within count ne = grind (arith, nat_tests)

pub start : (b : Bus) (n T : ℕ) (keys : List ℕ) → 0 < n → n ≤ 15
    → take n keys ≡ map (key_at b) (in_order (by_address b) n) → Going b n T keys (replicate 15 0) b 0
start b n T keys p l e = record {
  some = p;
  few = l;
  order = e;
  bus = refl;
  tally = refl;
  small = λ j. let z = wait_zero 15 j in omega arith;
}

module _ {b : Bus} {n T : ℕ} {keys counts : List ℕ} {after : Bus} {t : ℕ} (G : Going b n T keys counts after t) where
  -- the next turn is that of one of the fifteen places
  pub in_places : place_of_key (get_or keys (t % n) 0) < 15
  in_places = let r = place_said b n keys G.few G.order (t % n) (mod-lt t G.some) in
      let z = G.few in omega (arith, r.0, r.1)

  pub again : t < T → {a : Answer} → a ≡ m.call after (step_of (place_of_key (get_or keys (t % n) 0)))
      → Going b n T keys (set counts (place_of_key (get_or keys (t % n) 0))
      (get_or counts (place_of_key (get_or keys (t % n) 0)) 0 + 1)) a.bus (t + 1)
  again l {a} e = record {
    some = G.some;
    few = G.few;
    order = G.order;
    bus = ap (λ (x : Answer). x.bus) e ∙ ap (λ (c : Bus). (m.call c (step_of k)).bus) G.bus
        ∙ sym (ap (λ (ys : List ℕ). m.run b (steps ys)) next ∙ ap (m.run b) (steps_append (take t xs) (k ∷ []))
        ∙ run_append b (steps (take t xs)) (step_of k ∷ []));
    tally = ap (λ (cs : List ℕ). set cs k (get_or cs k 0 + 1)) G.tally
        ∙ sym (ap (counted (replicate 15 0)) next ∙ counted_append (replicate 15 0) (take t xs) (k ∷ []));
    small = turn_adds counts k (get_or counts k 0 + 1) t (let z = G.small k in omega arith) G.small;
  }
    where
      xs : List ℕ
      xs = turns (by_address b) n T

      k : ℕ
      k = place_of_key (get_or keys (t % n) 0)

      R : RoundRobin (by_address b) n T
      R = round_robin (by_address b) n (address_orders b n) G.some T

      turn : get_or xs t 0 ≡ k
      turn = R.turn t l ∙ sym (place_said b n keys G.few G.order (t % n) (mod-lt t G.some)).0

      next : take (t + 1) xs ≡ (take t xs ++ (k ∷ []))
      next = rw (add-one t) (take-suc xs t 0 (rw R.size l) ∙ ap (λ (x : ℕ). take t xs ++ (x ∷ [])) turn)

  -- all turns are given
  pub ends : T ≤ t → n ≡ within b.count → (b.count ≡ 0 → ⊥)
      → ◌≡◌ {A = Given} (record { verdict = (Ok tt); counts = counts; bus = after })
      (give_turns (by_address b) b T)
  ends l e ne = rw (ne_eqb b.count 0 ne, ← e)
      (cc (G.bus ∙ ap (λ (ys : List ℕ). m.run b (steps ys)) whole, G.tally ∙ ap (counted (replicate 15 0)) whole))
    where
      whole : take t (turns (by_address b) n T) ≡ turns (by_address b) n T
      whole = take_all t (turns (by_address b) n T)
          (rw (round_robin (by_address b) n (address_orders b n) G.some T).size l)
