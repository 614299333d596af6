-- Rounds of turns: within seven of them the byte that waits is put up and ends, whatever list of all places a round is.
-- Assumes nothing.
use mathlib.Core.Path.{◌≡◌, refl, sym, ap, ◌∙◌}
use mathlib.Core.Bool.{Bool, true, false, cond, ◌||◌}
use mathlib.Core.List.{List, [], ◌∷◌, ◌++◌}
use mathlib.Core.Logic.{◌⊎◌, inl, inr}
use Prim.Native.Nat.{ℕ, zero, suc, ◌+◌, ◌-◌, ◌≤◌, ◌<◌}
use native.Mathlib.Omega.{arith}
use lib.Dec.{ltb, eqb}
use borrow.Author.Tests.{eqb-true, eqb-false, ne_eqb, ltb-true, ltb-false, lt-ltb}
use Rattle.party.specs.Parts.{idle}
use Rattle.role.proofs.Logic.{no, test, cond-elim, or_right}
use Rattle.bus.specs.declared.Bus.{Bus}
use Rattle.bus.specs.Record.{here}
use Rattle.bus.specs.Machine as m
use Rattle.bus.specs.Delivery.{is_put}
use Rattle.bus.specs.Types.{Party, Sgns, Sdys}
use Rattle.runner.specs.Runner.{step_of}
use Rattle.runner.proofs.Members.{member, first_in}
use Rattle.bound_laws.proofs.Ranks.{rank, left, source_rank, rank_top, left_top}
use Rattle.bound_laws.proofs.Talker.{Lowers}
use Rattle.bound_laws.proofs.Talker as talker

-- What all parties want in the course of a round: who is still to come at most K, who has been at most one less.
abbrev Low : (Party → ℕ) → ℕ → List ℕ → Bus → Type 0
Low f K rem b = (j : ℕ) → f (here b j) ≤ cond (member j rem) K (K - 1)

low_step : (f : Party → ℕ) (K : ℕ) (b c : Bus) (i : ℕ) (rem : List ℕ) → Lowers f b c i → Low f K (i ∷ rem) b
    → Low f K rem c
low_step f K b c i rem D L j = go (eqb j i) refl (L j)
  where
    go : (u : Bool) → eqb j i ≡ u → f (here b j) ≤ cond (u || member j rem) K (K - 1)
        → f (here c j) ≤ cond (member j rem) K (K - 1)
    go true e h = rw (eqb-true j i e) (let d = D.own in let g : f (here b i) ≤ K = rw (eqb-true j i e) at h in
        cond-elim (λ (x : ℕ). f (here c i) ≤ x) (member i rem) (λ _. omega arith) (λ _. omega arith))
    go false e h = rw (D.other j (eqb-false j i e)) h

-- the next round
low_again : (f : Party → ℕ) (K : ℕ) (b : Bus) (round : List ℕ) → ((j : ℕ) → member j round ≡ false → f (here b j) ≡ 0)
    → Low f (suc K) [] b → Low f K round b
low_again f K b round h L j = test (member j round) (λ e. let l = L j in rw e (omega arith))
    (λ e. let l = h j e in rw e (omega arith))

low_all : (f : Party → ℕ) (b : Bus) (rem : List ℕ) → Low f 0 rem b → (j : ℕ) → f (here b j) ≤ 0
low_all f b rem L j = go (member j rem) (L j)
  where
    go : (u : Bool) → f (here b j) ≤ cond u 0 (0 - 1) → f (here b j) ≤ 0
    go true h = h
    go false h = omega arith

-- so many rounds
abbrev pub rounds : ℕ → List ℕ → List ℕ
rounds zero round = []
rounds (suc k) round = round ++ rounds k round

-- three more, by its cases
abbrev and3 : ℕ → ℕ
and3 zero = 3
and3 (suc k) = suc (and3 k)

module _ (n p w v : ℕ) (e : Bool) where
  abbrev Waits : Bus → Type 0
  Waits b = talker.Waits n p w v e b

  abbrev Waited : Bus → ℕ → Type 0
  Waited b i = talker.Waited n p w v e b i

  abbrev Sent : Bus → Type 0
  Sent b = talker.Sent n p w v e b

  abbrev Stood : Bus → ℕ → Type 0
  Stood b i = talker.Stood n p w v e b i

  abbrev Put : Bus → ℕ → Type 0
  Put b i = talker.Put n p w v e b i

  abbrev End : Bus → ℕ → Type 0
  End b i = talker.End n p w v e b i

  abbrev Keep : Bus → ℕ → Type 0
  Keep b i = talker.Keep n p w v e b i

  -- a list of turns in which the byte that stands ends; one in which the byte that waits is put, as the first, and ends
  abbrev pub Finishes : Bus → List ℕ → Type 0
  Finishes b [] = ⊥
  Finishes b (i ∷ is) = End b i ⊎ (Keep b i × Finishes (m.call b (step_of i)).bus is)

  abbrev pub Delivers : Bus → List ℕ → Type 0
  Delivers b [] = ⊥
  Delivers b (i ∷ is) = (Put b i × Finishes (m.call b (step_of i)).bus is)
      ⊎ ((is_put (m.call b (step_of i)).event ≡ false) × Delivers (m.call b (step_of i)).bus is)

  -- where nobody wanted a turn the talker, which would have had its way, was not among them
  absent : (i : ℕ) (is : List ℕ) (z : Bool) → (z ≡ true → member p is ≡ false) → (i ≡ p → z ≡ true → ⊥) → z ≡ true
      → member p (i ∷ is) ≡ false
  absent i is z h k f = rw (ne_eqb p i (λ g. k (sym g) f), h f) refl

  -- Through one round, with what comes after it as a continuation.
  stands_round : (is rest : List ℕ) (K : ℕ) (b : Bus) → ((k : ℕ) → member k is ≡ true → k < n) → Sent b
      → Low left K is b
      → ((c : Bus) → Sent c → Low left K [] c → (eqb K 0 ≡ true → member p is ≡ false) → Finishes c rest)
      → Finishes b (is ++ rest)
  stands_round [] rest K b u S L f = f b S L (λ _. refl)
  stands_round (i ∷ is) rest K b u S L f = go (talker.stands_step n p w v e b S i (u i (first_in i is)))
      (stands_round is rest K)
    where
      c : Bus
      c = (m.call b (step_of i)).bus

      go : End b i ⊎ Stood b i
          → ((b : Bus) → ((k : ℕ) → member k is ≡ true → k < n) → Sent b → Low left K is b
          → ((c : Bus) → Sent c → Low left K [] c → (eqb K 0 ≡ true → member p is ≡ false) → Finishes c rest)
          → Finishes b (is ++ rest))
          → End b i ⊎ (Keep b i × Finishes c (is ++ rest))
      go (inl r) ih = inl r
      go (inr r) ih = inr (
        r.keeps,
        ih c (λ k h. u k (or_right (eqb k i) h)) r.sent (low_step left K b c i is r.lowers L)
            (λ d T M h. f d T M (absent i is (eqb K 0) h
            (λ g z. r.held_up g (low_all left b (i ∷ is) (rw (eqb-true K 0 z) at L))))),
      )

  waits_round : (is rest : List ℕ) (K : ℕ) (b : Bus) → ((k : ℕ) → member k is ≡ true → k < n) → Waits b
      → Low rank K is b
      → ((c : Bus) → Sent c → Finishes c rest)
      → ((c : Bus) → Waits c → Low rank K [] c → (eqb K 0 ≡ true → member p is ≡ false) → Delivers c rest)
      → Delivers b (is ++ rest)
  waits_round [] rest K b u O L s f = f b O L (λ _. refl)
  waits_round (i ∷ is) rest K b u O L s f = go (talker.waits_step n p w v e b O i (u i (first_in i is)))
      (waits_round is rest K)
    where
      c : Bus
      c = (m.call b (step_of i)).bus

      inside : (k : ℕ) → member k is ≡ true → k < n
      inside k h = u k (or_right (eqb k i) h)

      go : (Put b i × Sent c) ⊎ Waited b i
          → ((b : Bus) → ((k : ℕ) → member k is ≡ true → k < n) → Waits b → Low rank K is b
          → ((c : Bus) → Sent c → Finishes c rest)
          → ((c : Bus) → Waits c → Low rank K [] c → (eqb K 0 ≡ true → member p is ≡ false) → Delivers c rest)
          → Delivers b (is ++ rest))
          → (Put b i × Finishes c (is ++ rest))
          ⊎ ((is_put (m.call b (step_of i)).event ≡ false) × Delivers c (is ++ rest))
      go (inl r) ih = inl (
        r.0,
        stands_round is rest 3 c inside r.1
            (λ j. let z = left_top (here c j).acceptor in
            cond-elim (λ (x : ℕ). left (here c j) ≤ x) (member j is) (λ _. omega arith) (λ _. omega arith))
            (λ d T _ _. s d T),
      )
      go (inr r) ih = inr (
        r.quiet,
        ih c inside r.waits (low_step rank K b c i is r.lowers L) s
            (λ d T M h. f d T M (absent i is (eqb K 0) h
            (λ g z. r.held_up g (low_all rank b (i ∷ is) (rw (eqb-true K 0 z) at L))))),
      )

  rank_start : (b : Bus) → Waits b → (j : ℕ) → rank (here b j) ≤ 3
  rank_start b O j = test (eqb j p)
      (λ h. rw (eqb-true j p h, O.base.aids) (own O.source))
      (λ h. rw (talker.in_sids_lem n p w v e b O.base j (eqb-false j p h))
      (let z = rank_top (here b j).acceptor in omega arith))
    where
      own : ((here b p).source ≡ Sgns) ⊎ ((here b p).source ≡ Sdys) → 0 + source_rank (here b p).source ≤ 3
      own (inl h) = rw h (omega arith)
      own (inr h) = rw h (omega arith)

  -- Seven rounds of a list that has every place.
  module _ (round : List ℕ) (cover : (k : ℕ) → member k round ≡ ltb k n) where
    all_in : (k : ℕ) → member k round ≡ true → k < n
    all_in k h = ltb-true k n (sym (cover k) ∙ h)

    out : (b : Bus) → talker.Base n p w v e b → (j : ℕ) → member j round ≡ false → here b j ≡ idle
    out b B j h = B.inv.pre.tail j (rw B.count (ltb-false j n (sym (cover j) ∙ h)))

    not_out : (b : Bus) → talker.Base n p w v e b → member p round ≡ false → ⊥
    not_out b B h = let z = cover p in let y = lt-ltb p n B.there in no (cc)

    again_left : (K : ℕ) (b : Bus) → Sent b → Low left (suc K) [] b → Low left K round b
    again_left K b S L = low_again left K b round (λ j h. ap left (out b S.base j h)) L

    again_rank : (K : ℕ) (b : Bus) → Waits b → Low rank (suc K) [] b → Low rank K round b
    again_rank K b O L = low_again rank K b round (λ j h. ap rank (out b O.base j h)) L

    -- while each party wants at most K turns, K + 1 rounds end the byte
    ends_in : (K : ℕ) (c : Bus) → Sent c → Low left K round c → Finishes c (rounds (suc K) round)
    ends_in zero c S L = stands_round round [] 0 c all_in S L (λ d T M h. absurd (not_out d T.base (h refl)))
    ends_in (suc K) c S L = stands_round round (rounds (suc K) round) (suc K) c all_in S L
        (λ d T M _. ends_in K d T (again_left K d T M))

    three : (c : Bus) → Sent c → Finishes c (rounds 3 round)
    three c S = ends_in 2 c S (again_left 2 c S (λ j. left_top (here c j).acceptor))

    -- rounds more do no harm
    more : (k : ℕ) (c : Bus) → Sent c → Finishes c (rounds (and3 k) round)
    more zero c S = three c S
    more (suc k) c S = stands_round round (rounds (and3 k) round) 3 c all_in S
        (again_left 3 c S (λ j. let z = left_top (here c j).acceptor in omega arith)) (λ d T _ _. more k d T)

    -- while each party wants at most K turns, K + 1 rounds put the byte, and three more end it
    puts_in : (K : ℕ) (c : Bus) → Waits c → Low rank K round c → Delivers c (rounds (suc (and3 K)) round)
    puts_in zero c O L = waits_round round (rounds 3 round) 0 c all_in O L three
        (λ d T M h. absurd (not_out d T.base (h refl)))
    puts_in (suc K) c O L = waits_round round (rounds (suc (and3 K)) round) (suc K) c all_in O L (more (suc K))
        (λ d T M _. puts_in K d T (again_rank K d T M))

    pub seven : (c : Bus) → Waits c → Delivers c (rounds 7 round)
    seven c O = puts_in 3 c O (again_rank 3 c O (rank_start c O))
