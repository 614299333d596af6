-- The user's condition on the second request bit, from the phases of a request.
-- Assumes nothing.
use mathlib.Core.Path.{◌≡◌, refl, ap, ◌∙◌}
use mathlib.Core.Bool.{Bool, true, false}
use mathlib.Core.List.{List, [], ◌∷◌}
use Prim.Native.Nat.{ℕ, zero, suc, ◌+◌, ◌-◌, ◌≤◌, ◌<◌}
use native.Mathlib.Omega.{arith}
use native.Mathlib.Nat.{not-suc-le-zero, le_of_suc-le-suc}
use lib.ListN.{length, get_or}
use lib.Dec.{eqb, ltb}
use borrow.Author.Tests.{eqb-true, eqb-false, ltb-true, ltb-false}
use Rattle.service.specs.declared.Request.{Request}
use Rattle.service.specs.declared.Service.TheVariants.{Nprs, Aprs}
use Rattle.service.proofs.Answering.{status_set, status_clear, aprs_answers, nprs_leaves}
use Rattle.role.proofs.Logic.{no, test}
use Rattle.bus.specs.declared.Bus.{Bus}
use Rattle.bus.specs.Types.{Call}
use Rattle.bus.specs.Types.call_of
use Rattle.bus.specs.Record.{here, accept}
use Rattle.bus.specs.Machine as m
use Rattle.bus.specs.Delivery.{Moment, history, moment, bus_at, answer_at}
use Rattle.bus.proofs.Invariant.{Inv}
use Rattle.bus.proofs.EachCall.{call_good, linked}
use Rattle.runner.specs.Lists.{expanded}
use Rattle.runner.proofs.Led.{led_inv}
use Rattle.request_laws.specs.Requests.{request_at, polled, Poll, StatAt, bit64, AsksAt, Left, NoneBetween, First}
use Rattle.request_laws.specs.Requests.{Waits, Answered, RequestsAnswered, RequestsAnsweredWithRuns}
use Rattle.request_laws.proofs.Serving.{Served, call_served}
use Rattle.request_laws.proofs.Phases.{stat, Phase, asking, begun, first, over, phase}

module _ (b : Bus) (cs : List Call) (p : ℕ)
    (G : (k : ℕ) → k < length cs → Served (bus_at b cs k) (moment b cs k).call (answer_at b cs k))
    (N : (k : ℕ) → suc k < length cs → bus_at b cs (suc k) ≡ (answer_at b cs k).bus) where
  -- "every status byte of the first poll that puts one"
  set : (r s e k : ℕ) → First b cs p r s e k → Left b cs p r k → bit64 b cs p k ≡ true
  set r s e k F H = rw (stat b cs p G N k F.puts).byte
      (status_set (request_at b cs p k) (go (phase b cs p G N r k F.asks lt F.puts.0 H).0))
    where
      lt : r < k
      lt = let x = F.after in let y = F.within.0 in omega arith

      go : Phase b cs p G N r k → (request_at b cs p k).service ≡ Aprs
      go (asking o x y n) = let z = (stat b cs p G N k F.puts).before in let w = y k lt (omega arith) in no (cc)
      go (begun o x j lj mj h n) = x
      go (first f K lf o x y) = x
      go (over f K lf o x j lj mj h) = no (outside (ltb f s) refl)
        where
          outside : (c : Bool) → ltb f s ≡ c → ◌≡◌ {A = ℕ} 0 1
          outside true h' = absurd (F.none f K.after (ltb-true f s h') K.puts)
          outside false h' = let g = ltb-false f s h' in let i = F.within.1 in
              let z = F.poll.unbroken j (omega arith) (omega arith) in cc

  -- "and of no later poll"
  unset : (r s e k l : ℕ) → First b cs p r s e k → e < l → StatAt b cs p l → Left b cs p r l → bit64 b cs p l ≡ false
  unset r s e k l F le t H = rw (stat b cs p G N l t).byte
      (status_clear (request_at b cs p l) (go (phase b cs p G N r l F.asks lt t.0 H).0))
    where
      rk : r < k
      rk = let x = F.after in let y = F.within.0 in omega arith

      kl : k < l
      kl = let z = F.within.1 in omega arith

      lt : r < l
      lt = let x = rk in let y = kl in omega arith

      go : Phase b cs p G N r l → (request_at b cs p l).service ≡ Nprs
      go (asking o x y n) = absurd (n k rk kl F.puts)
      go (begun o x j lj mj h n) = absurd (n k rk kl F.puts)
      go (first f K lf o x y) = no (later (ltb k f) refl)
        where
          later : (c : Bool) → ltb k f ≡ c → ◌≡◌ {A = ℕ} 0 1
          later true h = absurd (K.none k rk (ltb-true k f h) F.puts)
          later false h = let g = ltb-false k f h in let i = F.within.1 in let u = t.0 in
              let z = y (suc e) (omega arith) (omega arith) in let v = F.poll.after (omega arith) in cc
      go (over f K lf o x j lj mj h) = x

  -- a poll that puts nothing takes nothing from the request
  waits : (r k : ℕ) → AsksAt b cs p r → r < k → k < length cs → NoneBetween b cs p r k → Left b cs p r k
      → Waits b cs p r k
  waits r k A lt l none H = go (phase b cs p G N r k A lt l H).0
    where
      go : Phase b cs p G N r k → Waits b cs p r k
      go (asking o x y n) = record { on = o; srqs = λ _. x; aprs = λ j lj mj h. let z = y j lj mj in no (cc) }
      go (begun o x j lj mj h n) = record { on = o; srqs = λ y. let z = y j lj mj in no (cc); aprs = λ _ _ _ _. x }
      go (first f K lf o x y) = absurd (none f K.after lf K.puts)
      go (over f K lf o x j lj mj h) = absurd (none f K.after lf K.puts)

  -- a status byte put in APRS clears the bit, one put in NPRS clears nothing
  clears : (k : ℕ) → StatAt b cs p k → (request_at b cs p k).service ≡ Aprs
      → (here (answer_at b cs k).bus p).request.rsv2 ≡ false
  clears k t h = (stat b cs p G N k t).bit ∙ aprs_answers (request_at b cs p k) h

  spares : (k : ℕ) → StatAt b cs p k → (request_at b cs p k).service ≡ Nprs
      → (here (answer_at b cs k).bus p).request.rsv2 ≡ (request_at b cs p k).rsv2
  spares k t h = (stat b cs p G N k t).bit ∙ ap (λ (q : Request). q.rsv2) (nprs_leaves (request_at b cs p k) h)

  -- the poll that call l is in: its first call, and its last
  abbrev Through : ℕ → ℕ → Type 0
  Through s l = (j : ℕ) → s ≤ j → j ≤ l → polled b cs p j ≡ true

  abbrev Starts : ℕ → Type 0
  Starts l = (s : ℕ) × ((s ≤ l) × Through s l × ((j : ℕ) → suc j ≡ s → polled b cs p j ≡ false))

  abbrev Stops : ℕ → Type 0
  Stops l = (e : ℕ) × ((l ≤ e) × (e < length cs) × Through l e × (suc e < length cs → polled b cs p (suc e) ≡ false))

  only : (l : ℕ) → polled b cs p l ≡ true → Through l l
  only l h j lj mj = let e : j ≡ l = omega arith in rw e h

  starts : (l : ℕ) → polled b cs p l ≡ true → Starts l
  starts zero h = (0, (omega arith, only 0 h, λ j e. absurd (none e)))
    where
      none : {j : ℕ} → suc j ≡ 0 → ⊥
      none e = omega arith
  starts (suc l) h = go (starts l) (polled b cs p l) refl
    where
      go : (polled b cs p l ≡ true → Starts l) → (x : Bool) → polled b cs p l ≡ x → Starts (suc l)
      go R true e = let w = R e in let sl = w.1.0 in (
        w.0,
        (
          omega arith,
          λ j lj mj. test (eqb j (suc l)) (λ z. rw (eqb-true j (suc l) z) h)
              (λ z. let ne : (j ≡ suc l → ⊥) = eqb-false j (suc l) z in w.1.1 j lj (omega arith)),
          w.1.2,
        ),
      )
      go R false e = (suc l, (omega arith, only (suc l) h, λ j z. let y : j ≡ l = omega arith in rw y e))

  stops : (n l : ℕ) → l + suc n ≡ length cs → polled b cs p l ≡ true → Stops l
  stops zero l z h = (l, (omega arith, omega arith, only l h, λ m. absurd (past m)))
    where
      past : suc l < length cs → ⊥
      past m = omega arith
  stops (suc n) l z h = go (stops n (suc l)) (polled b cs p (suc l)) refl
    where
      go : (suc l + suc n ≡ length cs → polled b cs p (suc l) ≡ true → Stops (suc l)) → (x : Bool)
          → polled b cs p (suc l) ≡ x → Stops l
      go R true e = let w = R (omega arith) e in let le = w.1.0 in (
        w.0,
        (
          omega arith,
          w.1.1,
          λ j lj mj. test (eqb j l) (λ z. rw (eqb-true j l z) h)
              (λ z. let ne : (j ≡ l → ⊥) = eqb-false j l z in w.1.2 j (omega arith) mj),
          w.1.3,
        ),
      )
      go R false e = (l, (omega arith, omega arith, only l h, λ _. e))

  polls : (l : ℕ) → StatAt b cs p l → (s : ℕ) × (e : ℕ) × (Poll b cs p s e × (s ≤ l) × (l ≤ e))
  polls l t = let m = t.0 in let f = starts l (stat b cs p G N l t).before in
      let g = stops (length cs - suc l) l (omega arith) (stat b cs p G N l t).before in
      let sl = f.1.0 in let le = g.1.0 in (
        f.0,
        g.0,
        (
          record {
            order = (omega arith, g.1.1);
            unbroken = λ j lj mj. test (ltb l j) (λ z. let y = ltb-true l j z in g.1.2 j (omega arith) mj)
                (λ z. let y = ltb-false l j z in f.1.1 j lj y);
            before = f.1.2;
            after = g.1.3;
          },
          sl,
          le,
        ),
      )

  pub answered : Answered b cs p
  answered = record { set = set; unset = unset; waits = waits; clears = clears; spares = spares; polls = polls }

-- every call of a list
all_served : (b : Bus) → Inv b → (cs : List Call) (d : Moment) (k : ℕ) → k < length cs
    → Served (get_or (history b cs) k d).before (get_or (history b cs) k d).call (get_or (history b cs) k d).answer
all_served b I [] d k h = absurd (not-suc-le-zero h)
all_served b I (c ∷ cs) d zero h = call_served b I c
all_served b I (c ∷ cs) d (suc k) h = all_served (m.call b c).bus (call_good b I c).inv cs d k (le_of_suc-le-suc h)

pub requests_answered : RequestsAnswered
requests_answered b led cs p = answered b cs p (all_served b (led_inv b led) cs past) (linked b cs past)
  where
    past : Moment
    past = record { before = b; call = call_of.Lines; answer = accept b }

pub requests_answered_with_runs : RequestsAnsweredWithRuns
requests_answered_with_runs b led tie xs = requests_answered b led (expanded tie b xs)
