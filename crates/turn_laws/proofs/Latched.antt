-- What calls leave of the latches of every party, over lists with runs.
-- Assumes nothing.
use Prim.Native.Nat.{ℕ, ◌<◌}
use native.Mathlib.Omega.{arith}
use mathlib.Core.Path.{◌≡◌, refl, sym, ap, ◌∙◌}
use mathlib.Core.Bool.{Bool, true, false, cond}
use mathlib.Core.List.{List, [], ◌∷◌}
use lib.Dec.{eqb}
use lib.ListN.{length, set}
use lib.Seq.{get_or-set_same, get_or-set_other}
use borrow.Author.Tests.{eqb-true, eqb-false}
use Rattle.std.specs.Prelude.{Ok}
use Rattle.role.proofs.Logic.{no, test, cond-elim}
use Rattle.party.specs.declared.Latches.{Latches}
use Rattle.party.specs.Parts.{idle}
use Rattle.parties.specs.Places.{at}
use Rattle.parties.proofs.Places.{set_part}
use Rattle.effect.specs.Calls.{is_accepted, place_of}
use Rattle.accepted.specs.Accepted.{effect_of}
use Rattle.refusals.specs.Refusals.{own}
use Rattle.addresses.specs.Addresses.{bad_build}
use Rattle.bus.specs.declared.Bus.{Bus}
use Rattle.bus.specs.declared.Answer.{Answer}
use Rattle.bus.specs.Types.{Place, Name, Party, Act, Call, After, Effect}
use Rattle.bus.specs.Types.after
use Rattle.bus.specs.Types.call_of
use Rattle.bus.specs.Record.{here, lines, build_extended}
use Rattle.bus.specs.Settling.{followed}
use Rattle.bus.specs.Delivery.{history}
use Rattle.bus.specs.Machine as m
use Rattle.bus.proofs.Accepting.{known}
use Rattle.bus.proofs.Built.{all_new}
use Rattle.bus.proofs.EachCall.{call_good}
use Rattle.bus.proofs.Invariant.{Inv}
use Rattle.bus.proofs.Reached.{reached}
use Rattle.runner.specs.Waiting.{TieOrder}
use Rattle.runner.specs.Lists as lists
use Rattle.runner.specs.Lists.{Item, expanded, led_by, Start}
use Rattle.runner.proofs.Lists.{stands_for_steps}
use Rattle.turn_laws.specs.Told.{switch_after, told}
use Rattle.turn_laws.proofs.Kept.{latched, effect_kept, accepted_kept}

-- the latches that an accepted call leaves party q with
abbrev latched_at : ℕ → Call → Latches → Latches
latched_at q (call_of.Of p a) l = cond (eqb q p.0) (latched (call_of.Of p a) l) l
latched_at q c l = l

-- an accepted call, on its own party and on the others
module _ (b : Bus) (I : Inv b) (q : ℕ) where
  accepted_latches : (c : Call) → is_accepted (m.verdict (lines b) b c) ≡ true
      → (here (m.accepted (lines b) b c).bus q).latches ≡ latched_at q c (here b q).latches
  accepted_latches c ok = ap (λ (x : Name × Latches). x.1) (accepted_kept b c q) ∙ go c ok
    where
      new : Call → Party
      new c = (effect_of (m.view_at (place_of c) (lines b) b) c).party

      go : (c : Call) → is_accepted (m.verdict (lines b) b c) ≡ true
          → (at (set b.parties (place_of c).0 (new c)) q).latches ≡ latched_at q c (here b q).latches
      go (call_of.Of p a) ok = test (eqb q p.0) same other
        where
          c' : Call
          c' = call_of.Of p a

          fits : p.0 < length b.parties
          fits = let l = (known b p (own (m.view_at p (lines b) b) a) ok).0 in let s = I.small in
              rw I.size (omega arith)

          same : eqb q p.0 ≡ true
              → (at (set b.parties p.0 (new c')) q).latches ≡ latched_at q c' (here b q).latches
          same e =
              let h = eqb-true q p.0 e in
              ap (λ (n : ℕ). (at (set b.parties p.0 (new c')) n).latches) h
              ∙ ap (λ (x : Party). x.latches) (get_or-set_same b.parties p.0 (new c') idle fits)
              ∙ ap (λ (x : Name × Latches). x.1) (effect_kept (m.view_at p (lines b) b) c')
              ∙ rw e (ap (λ (n : ℕ). latched c' (here b n).latches) (sym h))

          other : eqb q p.0 ≡ false
              → (at (set b.parties p.0 (new c')) q).latches ≡ latched_at q c' (here b q).latches
          other e = rw (e, get_or-set_other b.parties p.0 q (new c') idle (eqb-false q p.0 e)) refl
      go c ok = set_part (λ (p : Party). p.latches) b.parties 0 (new c) refl q

followed_accepted : (x : After) (t : Bool) (b : Bus) (i : ℕ) (e : Effect) → (followed x t b i e).verdict ≡ Ok tt
followed_accepted after.Settle t b i e = refl
followed_accepted x t b i e = refl

call_latches : (b : Bus) → Inv b → (c : Call) (q : ℕ) → (here (m.call b c).bus q).latches
    ≡ cond (is_accepted (m.call b c).verdict) (latched_at q c (here b q).latches) (here b q).latches
call_latches b I c q = cond-elim
    (λ (a : Answer). (here a.bus q).latches
    ≡ cond (is_accepted a.verdict) (latched_at q c (here b q).latches) (here b q).latches)
    (is_accepted (m.verdict (lines b) b c))
    (λ ok. let e = effect_of (m.view_at (place_of c) (lines b) b) c in
    rw (followed_accepted e.after (lines b).atn b (place_of c).0 e) (accepted_latches b I q c ok))
    (λ no. rw no refl)

-- A switch among the latches is what a list tells of it, if `by` is what an accepted act leaves of it.
module _ (switch : Latches → Bool) (by : Act → Bool → Bool)
    (law : (p : Place) (a : Act) (l : Latches) → switch (latched (call_of.Of p a) l) ≡ by a (switch l)) where
  pub switch_at : Bus → ℕ → Bool
  switch_at b q = switch (here b q).latches

  either : (x : Bool) {l : Latches} (k : Latches) {on : Bool} → switch l ≡ on
      → switch (cond x l k) ≡ cond x on (switch k)
  either true k e = e
  either false k e = refl

  after_call : (q : ℕ) (c : Call) (l : Latches) → switch (latched_at q c l) ≡ switch_after by q c (switch l)
  after_call q (call_of.Of p a) l = either (eqb q p.0) l (law p a l)
  after_call q c l = refl

  call_switched : (b : Bus) → Inv b → (c : Call) (q : ℕ) → switch_at (m.call b c).bus q
      ≡ cond (is_accepted (m.call b c).verdict) (switch_after by q c (switch_at b q)) (switch_at b q)
  unfolding switch_at
  call_switched b I c q = ap switch (call_latches b I c q)
      ∙ either (is_accepted (m.call b c).verdict) (here b q).latches (after_call q c (here b q).latches)

  run_switched : (b : Bus) → Inv b → (cs : List Call) (q : ℕ)
      → switch_at (m.run b cs) q ≡ told by q (history b cs) (switch_at b q)
  run_switched b I [] q = refl
  run_switched b I (c ∷ cs) q = run_switched (m.call b c).bus (call_good b I c).inv cs q
      ∙ ap (told by q (history (m.call b c).bus cs)) (call_switched b I c q)

  -- off at build
  start_off : switch idle.latches ≡ false → (names : List Name) (system : Place)
      → (build_extended names system).verdict ≡ Ok tt
      → (q : ℕ) → switch_at (build_extended names system).bus q ≡ false
  unfolding switch_at
  start_off off names system ok q = cond-elim
      (λ (a : Answer). a.verdict ≡ Ok tt → switch (here a.bus q).latches ≡ false) (bad_build names system)
      (λ _ r. no (cc))
      (λ e _. all_new names system e (λ p. switch p.latches ≡ false) (λ n. off) q)
      ok

  pub as_told : switch idle.latches ≡ false → (names : List Name) (b : Bus) → Start names b
      → (tie : Bus → TieOrder) (xs : List Item) (q : ℕ)
      → switch (here (led_by tie b xs) q).latches ≡ told by q (history b (expanded tie b xs)) false
  unfolding switch_at
  as_told off names b (lists.built system ok) tie xs q =
      ap (λ (c : Bus). switch (here c q).latches) (stands_for_steps tie b xs)
      ∙ run_switched b (reached names system ok []) (expanded tie b xs) q
      ∙ ap (told by q (history b (expanded tie b xs))) (start_off off names system ok q)
