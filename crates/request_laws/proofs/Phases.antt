-- A request over a list of calls: it asks, a poll begins, its status bytes are put, and it is over.
-- Assumes nothing.
use mathlib.Core.Path.{◌≡◌, refl, sym, ap, ◌∙◌, subst}
use mathlib.Core.Bool.{Bool, true, false}
use mathlib.Core.List.{List}
use mathlib.Core.Logic.{◌⊎◌, inl, inr}
use Prim.Native.Nat.{ℕ, zero, suc, ◌≤◌, ◌<◌}
use native.Mathlib.Omega.{arith}
use native.Mathlib.Nat.{not-suc-le-zero}
use lib.ListN.{length}
use lib.Dec.{eqb, ltb}
use borrow.Author.Tests.{eqb-true, eqb-false, ltb-true, ltb-false}
use Rattle.service.specs.declared.Service.{Service}
use Rattle.service.specs.declared.Service.TheVariants.{Nprs, Srqs, Aprs}
use Rattle.service.specs.Service.{rsv, asks, service_settled, reported}
use Rattle.service.proofs.Answering.{bit_asks, nprs_asks, srqs_asks, aprs_asks, aprs_over, nprs_over, aprs_answers}
use Rattle.service.proofs.Answering.{stays_off}
use Rattle.role.proofs.Logic.{no, test}
use Rattle.bus.specs.declared.Bus.{Bus}
use Rattle.bus.specs.Types.{Call}
use Rattle.bus.specs.Record.{here}
use Rattle.bus.specs.Delivery.{moment, bus_at, answer_at}
use Rattle.request_laws.specs.Requests.{polled_on, request_at, polled, StatAt, AsksAt, TouchesAt, Left, NoneBetween}
use Rattle.request_laws.proofs.Serving.{Served, Stat, Puts}

-- what holds up to k and at the call after it holds up to that
up_to : (P : ℕ → Type 0) (r k : ℕ) → ((j : ℕ) → r < j → j ≤ k → P j) → P (suc k) → (j : ℕ) → r < j → j ≤ suc k → P j
up_to P r k f x j l h = test (ltb j (suc k)) (λ z. let y = ltb-true j (suc k) z in f j l (omega arith))
    (λ z. let y = ltb-false j (suc k) z in let e : j ≡ suc k = omega arith in rw e x)

module _ (b : Bus) (cs : List Call) (p : ℕ)
    (G : (k : ℕ) → k < length cs → Served (bus_at b cs k) (moment b cs k).call (answer_at b cs k))
    (N : (k : ℕ) → suc k < length cs → bus_at b cs (suc k) ≡ (answer_at b cs k).bus) where
  abbrev pub There : ℕ → Type 0
  There k = p < (bus_at b cs k).count

  pub stat : (k : ℕ) → StatAt b cs p k → Stat (bus_at b cs k) (answer_at b cs k) p
  stat k t = (G k t.0).stat p t.1 t.2

  -- call k puts the first status byte after call r
  pub record FirstAfter (r k : ℕ) : Type 0 where
    pub after : r < k
    pub puts : StatAt b cs p k
    pub none : NoneBetween b cs p r k

  -- where a request stands when call k comes
  pub data Phase (r k : ℕ) : Type 0 where
    asking : (request_at b cs p k).rsv2 ≡ true → (request_at b cs p k).service ≡ Srqs
        → ((j : ℕ) → r < j → j ≤ k → polled b cs p j ≡ false) → NoneBetween b cs p r k → Phase r k
    begun : (request_at b cs p k).rsv2 ≡ true → (request_at b cs p k).service ≡ Aprs → (j : ℕ) → r < j → j ≤ k
        → polled b cs p j ≡ true → NoneBetween b cs p r k → Phase r k
    first : (f : ℕ) → FirstAfter r f → f < k → (request_at b cs p k).rsv2 ≡ false → (request_at b cs p k).service ≡ Aprs
        → ((j : ℕ) → f ≤ j → j ≤ k → polled b cs p j ≡ true) → Phase r k
    over : (f : ℕ) → FirstAfter r f → f < k → (request_at b cs p k).rsv2 ≡ false → (request_at b cs p k).service ≡ Nprs
        → (j : ℕ) → f ≤ j → j ≤ k → polled b cs p j ≡ false → Phase r k

  -- from call k to the next
  module _ (k : ℕ) (l : suc k < length cs) (here-is : There k) where
    there_next : There (suc k)
    there_next = rw (N k l, (G k (omega arith)).count) here-is

    service_next : rsv (request_at b cs p (suc k)).live ≡ false
        → (request_at b cs p (suc k)).service ≡ service_settled (request_at b cs p k).service (request_at b cs p (suc k)
        ).rsv2 (polled b cs p (suc k))
    service_next q = subst (λ (x : Bus). (here x p).request.service ≡ service_settled was
        (asks (here x p).request.live (here x p).request.rsv2) (polled_on x p)) (sym (N k l))
        ((G k (omega arith)).service p here-is)
        ∙ ap (λ (x : Bool). service_settled was x (polled b cs p (suc k)))
        (bit_asks (request_at b cs p (suc k)).live (request_at b cs p (suc k)).rsv2 q)
      where
        was : Service
        was = (request_at b cs p k).service

    bit_next : (TouchesAt b cs p k → ⊥) → ((request_at b cs p (suc k)).rsv2 ≡ (request_at b cs p k).rsv2)
        ⊎ StatAt b cs p k
    bit_next u = go ((G k (omega arith)).bit p here-is)
      where
        go : ((here (answer_at b cs k).bus p).request.rsv2 ≡ (request_at b cs p k).rsv2)
            ⊎ (TouchesAt b cs p k ⊎ Puts (moment b cs k).call (answer_at b cs k).event p)
            → ((request_at b cs p (suc k)).rsv2 ≡ (request_at b cs p k).rsv2) ⊎ StatAt b cs p k
        go (inl e) = inl (ap (λ (x : Bus). (here x p).request.rsv2) (N k l) ∙ e)
        go (inr (inl t)) = absurd (u t)
        go (inr (inr t)) = inr (omega arith, t.0, t.1)

    pub stat_bit : StatAt b cs p k → (request_at b cs p (suc k)).rsv2 ≡ (reported (request_at b cs p k)).rsv2
    stat_bit t = ap (λ (x : Bus). (here x p).request.rsv2) (N k l) ∙ (stat k t).bit

    stat_polled : StatAt b cs p k → polled b cs p (suc k) ≡ true
    stat_polled t = ap (λ (x : Bus). polled_on x p) (N k l) ∙ (stat k t).after

  -- the request is switched on
  begins : (r : ℕ) → AsksAt b cs p r → suc r < length cs → rsv (request_at b cs p (suc r)).live ≡ false
      → Phase r (suc r)
  begins r A l q = asking on (service_next r l w.0 q ∙ rw (A.nprs, on, out) nprs_asks)
      (λ j h m. let e : j ≡ suc r = omega arith in rw e out) (λ j h m. absurd (past h m))
    where
      w : (p < (bus_at b cs r).count) × ((here (answer_at b cs r).bus p).request.rsv2 ≡ true)
          × (polled_on (answer_at b cs r).bus p ≡ polled b cs p r)
      w = (G r A.there).switched p A.accepted A.call

      on : (request_at b cs p (suc r)).rsv2 ≡ true
      on = ap (λ (x : Bus). (here x p).request.rsv2) (N r l) ∙ w.1

      out : polled b cs p (suc r) ≡ false
      out = ap (λ (x : Bus). polled_on x p) (N r l) ∙ w.2 ∙ A.outside

      past : {j : ℕ} → r < j → j < suc r → ⊥
      past h m = omega arith

  -- and stands on from call to call
  module _ (r k : ℕ) (lt : r < k) (l : suc k < length cs) (here-is : There k)
      (q : rsv (request_at b cs p (suc k)).live ≡ false) (u : TouchesAt b cs p k → ⊥) where
    still_none : NoneBetween b cs p r k → (StatAt b cs p k → ⊥) → NoneBetween b cs p r (suc k)
    still_none s n j lj mj t = test (eqb j k) (λ h. n (subst (StatAt b cs p) (eqb-true j k h) t))
        (λ h. let ne : (j ≡ k → ⊥) = eqb-false j k h in s j lj (omega arith) t)

    -- the bit stays on unless a status byte is put
    bit_on : (request_at b cs p k).rsv2 ≡ true → (StatAt b cs p k → ⊥) → (request_at b cs p (suc k)).rsv2 ≡ true
    bit_on e n = go (bit_next k l here-is u)
      where
        go : ((request_at b cs p (suc k)).rsv2 ≡ (request_at b cs p k).rsv2) ⊎ StatAt b cs p k
            → (request_at b cs p (suc k)).rsv2 ≡ true
        go (inl f) = f ∙ e
        go (inr t) = absurd (n t)

    bit_off : (request_at b cs p k).rsv2 ≡ false → (request_at b cs p (suc k)).rsv2 ≡ false
    bit_off e = go (bit_next k l here-is u)
      where
        go : ((request_at b cs p (suc k)).rsv2 ≡ (request_at b cs p k).rsv2) ⊎ StatAt b cs p k
            → (request_at b cs p (suc k)).rsv2 ≡ false
        go (inl f) = f ∙ e
        go (inr t) = stat_bit k l here-is t ∙ rw e (stays_off (request_at b cs p k).service)

    asking_next : (request_at b cs p k).rsv2 ≡ true → (request_at b cs p k).service ≡ Srqs
        → ((j : ℕ) → r < j → j ≤ k → polled b cs p j ≡ false) → NoneBetween b cs p r k → Phase r (suc k)
    asking_next e s o n = go (polled b cs p (suc k)) refl
      where
        not_put_lem : StatAt b cs p k → ⊥
        not_put_lem t = let x = (stat k t).before in let y = o k lt (omega arith) in no (cc)

        on : (request_at b cs p (suc k)).rsv2 ≡ true
        on = bit_on e not_put_lem

        go : (x : Bool) → polled b cs p (suc k) ≡ x → Phase r (suc k)
        go true h = begun on (service_next k l here-is q ∙ rw (s, on, h) (srqs_asks true)) (suc k) (omega arith)
            (omega arith) h (still_none n not_put_lem)
        go false h = asking on (service_next k l here-is q ∙ rw (s, on, h) (srqs_asks false))
            (up_to (λ j. polled b cs p j ≡ false) r k o h) (still_none n not_put_lem)

    begun_next : (request_at b cs p k).rsv2 ≡ true → (request_at b cs p k).service ≡ Aprs → (j : ℕ) → r < j → j ≤ k
        → polled b cs p j ≡ true → NoneBetween b cs p r k → Phase r (suc k)
    begun_next e s j lj mj h n = go (bit_next k l here-is u)
      where
        off : StatAt b cs p k → (request_at b cs p (suc k)).rsv2 ≡ false
        off t = stat_bit k l here-is t ∙ aprs_answers (request_at b cs p k) s

        both : StatAt b cs p k → (i : ℕ) → k ≤ i → i ≤ suc k → polled b cs p i ≡ true
        both t i li mi = test (eqb i k) (λ z. rw (eqb-true i k z) (stat k t).before)
            (λ z. let ne : (i ≡ k → ⊥) = eqb-false i k z in let y : i ≡ suc k = omega arith in
            rw y (stat_polled k l here-is t))

        go : ((request_at b cs p (suc k)).rsv2 ≡ (request_at b cs p k).rsv2) ⊎ StatAt b cs p k → Phase r (suc k)
        go (inl f) = begun (f ∙ e) (service_next k l here-is q ∙ rw (s, f ∙ e) (aprs_asks (polled b cs p (suc k)))) j lj
            (omega arith) h (still_none n (λ t. let z = off t in let y = f ∙ e in no (cc)))
        go (inr t) = first k (record { after = lt; puts = t; none = n }) (omega arith) (off t)
            (service_next k l here-is q ∙ rw (s, off t, stat_polled k l here-is t) (aprs_over true)) (both t)

    first_next : (f : ℕ) → FirstAfter r f → f < k → (request_at b cs p k).rsv2 ≡ false
        → (request_at b cs p k).service ≡ Aprs → ((j : ℕ) → f ≤ j → j ≤ k → polled b cs p j ≡ true) → Phase r (suc k)
    first_next f F lf e s o = go (polled b cs p (suc k)) refl
      where
        go : (x : Bool) → polled b cs p (suc k) ≡ x → Phase r (suc k)
        go true h = first f F (omega arith) (bit_off e)
            (service_next k l here-is q ∙ rw (s, bit_off e, h) (aprs_over true))
            (λ j lj mj. test (ltb j (suc k)) (λ z. let y = ltb-true j (suc k) z in o j lj (omega arith))
            (λ z. let y = ltb-false j (suc k) z in let x : j ≡ suc k = omega arith in rw x h))
        go false h = over f F (omega arith) (bit_off e)
            (service_next k l here-is q ∙ rw (s, bit_off e, h) (aprs_over false)) (suc k) (omega arith) (omega arith) h

    phase_next : Phase r k → Phase r (suc k)
    phase_next (asking e s o n) = asking_next e s o n
    phase_next (begun e s j lj mj h n) = begun_next e s j lj mj h n
    phase_next (first f F lf e s o) = first_next f F lf e s o
    phase_next (over f F lf e s j lj mj h) = over f F (omega arith) (bit_off e)
        (service_next k l here-is q ∙ rw (s, bit_off e) (nprs_over (polled b cs p (suc k)))) j lj (omega arith) h

  shorter : (r k : ℕ) → Left b cs p r (suc k) → Left b cs p r k
  shorter r k H = record {
    untouched = λ j lj mj. H.untouched j lj (omega arith);
    clear = λ j lj mj. H.clear j lj (omega arith);
  }

  pub phase : (r k : ℕ) → AsksAt b cs p r → r < k → k < length cs → Left b cs p r k → Phase r k × There k
  phase r zero A lt l H = absurd (not-suc-le-zero lt)
  phase r (suc k) A lt l H = go (phase r k A) (eqb r k) refl
    where
      go : (r < k → k < length cs → Left b cs p r k → Phase r k × There k) → (x : Bool) → eqb r k ≡ x
          → Phase r (suc k) × There (suc k)
      go R true e = subst (λ (j : ℕ). Phase r (suc j) × There (suc j)) (eqb-true r k e) (
        begins r A lr (H.clear (suc r) (omega arith) (omega arith)),
        there_next r lr
            ((G r A.there).switched p A.accepted A.call).0,
      )
        where
          lr : suc r < length cs
          lr = omega arith
      go R false e = let ne : (r ≡ k → ⊥) = eqb-false r k e in let lk : r < k = omega arith in
          let P = R lk (omega arith) (shorter r k H) in (
            phase_next r k lk l P.1 (H.clear (suc k) (omega arith) (omega arith)) (H.untouched k lk (omega arith))
                P.0,
            there_next k l P.1,
          )
