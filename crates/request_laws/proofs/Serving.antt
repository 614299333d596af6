-- What one call does to the request for service of every party.
-- Assumes nothing.
use mathlib.Core.Path.{◌≡◌, refl, sym, ap, ◌∙◌, subst}
use mathlib.Core.Bool.{Bool, true, false, cond}
use mathlib.Core.List.{List}
use mathlib.Core.Logic.{◌⊎◌, inl, inr}
use Prim.Native.Nat.{ℕ, ◌≤◌, ◌<◌}
use native.Mathlib.Omega.{arith}
use Rattle.std.specs.Prelude.{Option, Ok}
use lib.ListN.{length, set, length-set}
use lib.Seq.{get_or-set_same}
use lib.Dec.{ltb, eqb}
use borrow.Author.Tests.{eqb-true, eq-eqb, ltb-true, ltb-false}
use Rattle.service.specs.declared.Request.{Request}
use Rattle.service.specs.Service.{asks, service_settled, request_settled, status, reported}
use Rattle.service.proofs.Answering.{bit_settled}
use Rattle.role.proofs.Logic.{no, test, cond-elim}
use Rattle.party.specs.Parts.{idle}
use Rattle.party.specs.Driving.{is_active}
use Rattle.party.specs.Sending.{is_polled}
use Rattle.party.specs.Settling.{attended, settled, change_control, cleared}
use Rattle.parties.specs.Places.{place, at, some, each}
use Rattle.parties.proofs.Places.{upd, at_set, each_below, length_each, set_part, each_part, some_set, some_each}
use Rattle.effect.specs.Calls.{is_accepted, place_of}
use Rattle.refusals.specs.Refusals.{of_switch}
use Rattle.host_calls.specs.HostCalls.{second_request}
use Rattle.effect.specs.Effects.{with_standing}
use Rattle.accepted.specs.Accepted.{effect_of}
use Rattle.bus.specs.Record.{here, lines, silent as unmoved}
use Rattle.effect.specs.Stands.{stands}
use Rattle.bus.specs.Settling.{settle_bus_as, deserted, attend, followed}
use Rattle.bus.specs.Machine as m
use Rattle.bus.proofs.Invariant.{Inv, atn_of}
use Rattle.bus.proofs.Accepting.{known}
use Rattle.bus.proofs.Seats.{seat}
use Rattle.bus.specs.declared.Bus.{Bus}
use Rattle.bus.specs.declared.Answer.{Answer}
use Rattle.bus.specs.Types.{Party, Idle, Active, Event, Standing, Call, Verdict, Said, After, Effect}
use Rattle.bus.specs.Types.ev
use Rattle.bus.specs.Types.after
use Rattle.bus.specs.Types.call_of
use Rattle.bus.specs.Types.act_of
use Rattle.runner.proofs.Lists.{count_kept}
use Rattle.request_laws.specs.Requests.{polled_on}
use Rattle.request_laws.proofs.Asked.{is_stat, asked, Fair, Reports, Turn, silent, reports, step_turn, Leaves}
use Rattle.request_laws.proofs.Asked.{leaves}

-- every party has settled with the request q that the call left it
abbrev Settles : Bus → Bus → (ℕ → Request) → Type 0
Settles b b' q = (j : ℕ) → j < b.count → (here b' j).request ≡ request_settled (polled_on b' j) (q j)

module _ (b : Bus) (I : Inv b) where
  -- a bus whose parties settle from ps
  module _ (t off : Bool) (s : Said) (ps : List Party) (st : Option Standing) (te : some b.count is_active ps ≡ t)
      (fits : b.count ≤ length ps) where
    abbrev now : Bus
    now = (settle_bus_as t off b s ps st).bus

    seen : (j : ℕ) → j < b.count → here now j ≡ settled t (at ps j)
    seen j l = each_below b.count (settled t) ps j l fits

    polled : (j : ℕ) → j < b.count → polled_on now j ≡ is_polled t (at ps j)
    polled j l = rw (some_each b.count is_active (settled t) ps (λ p. refl), te, seen j l) refl

    settles : (q : ℕ → Request) → ((j : ℕ) → (at ps j).request ≡ q j) → Settles b now q
    settles q h j l = ap (λ (p : Party). p.request) (seen j l) ∙ rw (polled j l, h j) refl

  fits : b.count ≤ length b.parties
  fits = let z = I.size in let s = I.small in omega arith

  attends : (s : Said) (ps : List Party) (st : Option Standing) → length ps ≡ length b.parties → (q : ℕ → Request)
      → ((j : ℕ) → (at ps j).request ≡ q j) → Settles b (attend b s ps st).bus q
  attends s ps st len q h = settles t (stands st) s (each b.count (attended t) ps) st
      (some_each b.count is_active (attended t) ps (λ p. refl)) (rw (length_each, len) fits)
      q (λ j. each_part (λ (p : Party). p.request) b.count (attended t) ps (λ p. refl) j ∙ h j)
    where
      t : Bool
      t = some b.count is_active ps

  module _ (i : ℕ) (room : i < length b.parties) (e : Effect) where
    -- the requests as the effect leaves them
    abbrev left : ℕ → Request
    left j = (upd (here b) i e.party j).request

    left_same : e.party.request ≡ (here b i).request → (j : ℕ) → (here b j).request ≡ left j
    left_same h j = go (eqb j i) refl
      where
        go : (x : Bool) → eqb j i ≡ x → (here b j).request ≡ (cond x e.party (here b j)).request
        go true f = rw (eqb-true j i f) (sym h)
        go false f = refl

    stored : (j : ℕ) → (at (set b.parties i e.party) j).request ≡ left j
    stored j = ap (λ (v : ℕ → Party). (v j).request) (at_set b.parties i e.party room)

    pub follow_settles : (x : After) → Fair x (here b i) e.party → Settles b (followed x (atn_of b) b i e).bus left
    follow_settles after.Settle F = settles (atn_of b) (deserted (atn_of b) (set b.parties i e.party) e.standing)
        e.said (set b.parties i e.party) e.standing
        (some_set b.count is_active b.parties i e.party F) (rw length-set fits) left stored
    follow_settles (after.Pass k) F = attends e.said (set gone k.0 (change_control Active (here b k.0)))
        e.standing (length-set gone k.0 (change_control Active (here b k.0))
        ∙ length-set b.parties i (change_control Idle e.party)) left
        (λ j. set_part (λ (p : Party). p.request) gone k.0 (change_control Active (here b k.0))
        (sym (kept k.0)) j ∙ kept j ∙ left_same F j)
      where
        gone : List Party
        gone = set b.parties i (change_control Idle e.party)

        kept : (j : ℕ) → (at gone j).request ≡ (here b j).request
        kept = set_part (λ (p : Party). p.request) b.parties i (change_control Idle e.party) F
    follow_settles after.Attend F = attends e.said (set b.parties i e.party) e.standing
        (length-set b.parties i e.party) left stored
    follow_settles after.Clear F = attends e.said (set all i e.party) e.standing
        (length-set all i e.party ∙ length_each b.count cleared b.parties) left
        (λ j. ap (λ (v : ℕ → Party). (v j).request) (at_set all i e.party (rw length_each room)) ∙ go j (eqb j i))
      where
        all : List Party
        all = each b.count cleared b.parties

        go : (j : ℕ) (x : Bool) → (cond x e.party (at all j)).request ≡ (cond x e.party (here b j)).request
        go j true = refl
        go j false = each_part (λ (p : Party). p.request) b.count cleared b.parties (λ p. refl) j
    follow_settles after.Poll F = settles (atn_of b) (deserted (atn_of b) (set b.parties i e.party) e.standing)
        e.said (set b.parties i e.party) e.standing
        (some_set b.count is_active b.parties i e.party F) (rw length-set fits) left stored

    -- where settling alone follows, and the role is as it was, the party is polled if it was
    pub follow_polled : i < b.count → (x : After) → x ≡ after.Settle → is_active e.party ≡ is_active (here b i)
        → e.party.role ≡ (here b i).role → polled_on (followed x (atn_of b) b i e).bus i ≡ polled_on b i
    follow_polled l x h act r = subst (λ (y : After). polled_on (followed y (atn_of b) b i e).bus i ≡ polled_on b i)
        (sym h)
        (polled (atn_of b) (deserted (atn_of b) ps e.standing) e.said ps e.standing
        (some_set b.count is_active b.parties i e.party act) (rw length-set fits) i l
        ∙ rw (get_or-set_same b.parties i e.party idle room, r) refl)
      where
        ps : List Party
        ps = set b.parties i e.party

-- what a call leaves of its party's request, read part by part
asked_service : (c : Call) (x : Event) (q : Request) → (asked c x q).service ≡ q.service
asked_service (call_of.Of i act_of.Step) x q = cond-elim (λ (y : Request). y.service ≡ q.service) (is_stat x)
    (λ _. refl) (λ _. refl)
asked_service c x q = refl

-- by call c with event x the bit of party j may change: it is switched, reset, or its status byte is put
abbrev pub Switches : Call → ℕ → Type 0
Switches c j = ((on : ℕ) × (c ≡ call_of.Of (place j) (act_of.SecondRequest on)))
    ⊎ (c ≡ call_of.Of (place j) act_of.Reset)

abbrev pub Puts : Call → Event → ℕ → Type 0
Puts c x j = (c ≡ call_of.Of (place j) act_of.Step) × (x ≡ ev.Stat)

abbrev Turns : Call → Event → ℕ → Type 0
Turns c x j = Switches c j ⊎ Puts c x j

is_stat_lem : (x : Event) → is_stat x ≡ true → x ≡ ev.Stat
is_stat_lem ev.Stat e = refl
is_stat_lem x e = no (cc)

asked_bit : (c : Call) (x : Event) (q : Request) → ((asked c x q).rsv2 ≡ q.rsv2) ⊎ Turns c x (place_of c).0
asked_bit (call_of.Of i act_of.Step) x q = cond-elim
    (λ (y : Request). (y.rsv2 ≡ q.rsv2) ⊎ Turns (call_of.Of i act_of.Step) x i.0) (is_stat x)
    (λ h. inr (inr (refl, is_stat_lem x h))) (λ _. inl refl)
asked_bit (call_of.Of i act_of.Reset) x q = inr (inl (inr refl))
asked_bit (call_of.Of i (act_of.SecondRequest on)) x q = inr (inl (inl (on, refl)))
asked_bit c x q = inl refl

-- party j puts a status byte
pub record Stat (b : Bus) (a : Answer) (j : ℕ) : Type 0 where
  pub there : j < b.count
  pub before : polled_on b j ≡ true
  pub after : polled_on a.bus j ≡ true
  pub byte : a.byte ≡ status (here b j).request
  pub bit : (here a.bus j).request.rsv2 ≡ (reported (here b j).request).rsv2

-- What any call does to every party's request. A refused one fits: on a bus that has settled, settling again changes
-- nothing.
pub record Served (b : Bus) (c : Call) (a : Answer) : Type 0 where
  pub count : a.bus.count ≡ b.count
  pub service : (j : ℕ) → j < b.count
      → (here a.bus j).request.service ≡ service_settled (here b j).request.service (asks
      (here a.bus j).request.live (here a.bus j).request.rsv2) (polled_on a.bus j)
  pub bit : (j : ℕ) → j < b.count → ((here a.bus j).request.rsv2 ≡ (here b j).request.rsv2) ⊎
      (((a.verdict ≡ Ok tt) × Switches c j) ⊎ Puts c a.event j)
  pub switched : (j : ℕ) → a.verdict ≡ Ok tt → c ≡ call_of.Of (place j) (act_of.SecondRequest 1)
      → (j < b.count) × ((here a.bus j).request.rsv2 ≡ true) × (polled_on a.bus j ≡ polled_on b j)
  pub stat : (j : ℕ) → c ≡ call_of.Of (place j) act_of.Step → a.event ≡ ev.Stat → Stat b a j

-- the event of an effect that puts a status byte is the answer's, and the other way round
followed_stat : (x : After) (t : Bool) (b : Bus) (i : ℕ) (e : Effect) → (followed x t b i e).event ≡ ev.Stat
    → e.said.event ≡ ev.Stat
followed_stat after.Settle t b i e h = h
followed_stat after.Attend t b i e h = h
followed_stat x t b i e h = no (cc)

accepted_says : (x : After) (t : Bool) (b : Bus) (i : ℕ) (e : Effect) → (followed x t b i e).verdict ≡ Ok tt
accepted_says after.Settle t b i e = refl
accepted_says x t b i e = refl

module _ (b : Bus) (I : Inv b) (c : Call) (ok : is_accepted (m.verdict (lines b) b c) ≡ true) where
  abbrev i : ℕ
  i = (place_of c).0

  abbrev e : Effect
  e = effect_of (m.view_at (place_of c) (lines b) b) c

  abbrev a : Answer
  a = m.accepted (lines b) b c

  L : Leaves (lines b) (here b i) c e
  L = leaves (m.view_at (place_of c) (lines b) b) c

  room : i < length b.parties
  room = let z = I.size in test (ltb i 15) (λ h. let k = ltb-true i 15 h in omega arith) (λ h. let k = ltb-false i 15 h
      in let s : 0 ≡ i = sym (rw h refl) ∙ seat b c ok in omega arith)

  next : Settles b a.bus (left b I i room e)
  next = follow_settles b I i room e e.after L.follows

  -- the request that party j is left with
  kept : (j : ℕ) → left b I i room e j ≡ cond (eqb j i) (asked c e.said.event (here b i).request) (here b j
      ).request
  kept j = go (eqb j i)
    where
      go : (x : Bool) → (cond x e.party (here b j)).request
          ≡ cond x (asked c e.said.event (here b i).request) (here b j).request
      go true = L.request
      go false = refl

  -- what holds of it where the call left it something of its own, and of every other
  at_place : (R : ℕ → Request → Type 0) → R i (asked c e.said.event (here b i).request)
      → ((j : ℕ) → R j (here b j).request) → (j : ℕ) → R j (left b I i room e j)
  at_place R f g j = rw (kept j) (go (eqb j i) refl)
    where
      go : (x : Bool) → eqb j i ≡ x → R j (cond x (asked c e.said.event (here b i).request) (here b j).request)
      go true h = rw (eqb-true j i h) f
      go false h = g j

  pub next_service : (j : ℕ) → j < b.count
      → (here a.bus j).request.service ≡ service_settled (here b j).request.service (asks
      (here a.bus j).request.live (here a.bus j).request.rsv2) (polled_on a.bus j)
  next_service j l =
      let same = at_place (λ j q. q.service ≡ (here b j).request.service)
      (asked_service c e.said.event (here b i).request) (λ j. refl) j in
      let n = next j l in
      ap (λ (q : Request). q.service) n ∙ rw (same, ap (λ (q : Request). q.live) n, ap (λ (q : Request). q.rsv2) n)
      refl

  pub next_bit : (j : ℕ) → j < b.count → ((here a.bus j).request.rsv2 ≡ (here b j).request.rsv2)
      ⊎ Turns c e.said.event j
  next_bit j l = go (at_place (λ j q. (q.rsv2 ≡ (here b j).request.rsv2) ⊎ Turns c e.said.event j)
      (asked_bit c e.said.event (here b i).request) (λ j. inl refl) j)
    where
      go : ((left b I i room e j).rsv2 ≡ (here b j).request.rsv2) ⊎ Turns c e.said.event j
          → ((here a.bus j).request.rsv2 ≡ (here b j).request.rsv2) ⊎ Turns c e.said.event j
      go (inl h) = inl (ap (λ (q : Request). q.rsv2) (next j l)
          ∙ bit_settled (polled_on a.bus j) (left b I i room e j) ∙ h)
      go (inr h) = inr h

  pub own_bit : i < b.count → (here a.bus i).request.rsv2 ≡ e.party.request.rsv2
  own_bit l = ap (λ (q : Request). q.rsv2) (next i l) ∙ bit_settled (polled_on a.bus i) (left b I i room e i)
      ∙ ap (λ (x : Bool). (cond x e.party (here b i)).request.rsv2) (eq-eqb i i refl)

-- a step that puts a status byte
module _ (b : Bus) (I : Inv b) (j : ℕ) (ok : is_accepted (m.verdict (lines b) b (call_of.Of (place j) act_of.Step)) ≡
    true) where
  abbrev it : Effect
  it = effect_of (m.view_at (place j) (lines b) b) (call_of.Of (place j) act_of.Step)

  abbrev answer : Answer
  answer = m.accepted (lines b) b (call_of.Of (place j) act_of.Step)

  inside : j < b.count
  inside = (known b (place j) (Ok tt) ok).0

  reported_by : it.said.event ≡ ev.Stat → Reports (lines b) (here b j) it
  reported_by h = go (step_turn (m.view_at (place j) (lines b) b))
    where
      go : Turn (lines b) (here b j) it → Reports (lines b) (here b j) it
      go (silent n r x) = let z = ap is_stat h in no (cc)
      go (reports y w) = w

  stat_event : it.said.event ≡ ev.Stat → answer.event ≡ ev.Stat
  stat_event h = ap (λ (x : After). (followed x (atn_of b) b j it).event) (reported_by h).follows ∙ h

  step_stat : answer.event ≡ ev.Stat → Stat b answer j
  step_stat h = record {
    there = inside;
    before = w.polled;
    after = follow_polled b I j (room b I (call_of.Of (place j) act_of.Step) ok) it inside it.after w.follows
        (ap is_active w.party) (ap (λ (p : Party). p.role) w.party) ∙ w.polled;
    byte = ap (λ (x : After). (followed x (atn_of b) b j it).byte) w.follows ∙ w.byte;
    bit = own_bit b I (call_of.Of (place j) act_of.Step) ok inside ∙ ap (λ (p : Party). p.request.rsv2) w.party;
  }
    where
      w : Reports (lines b) (here b j) it
      w = reported_by (followed_stat it.after (atn_of b) b j it h)

-- the bit is switched on
switched_on : (b : Bus) → Inv b → (j : ℕ) → is_accepted (m.verdict (lines b) b
    (call_of.Of (place j) (act_of.SecondRequest 1))) ≡ true
    → let a = m.accepted (lines b) b (call_of.Of (place j) (act_of.SecondRequest 1)) in
    (j < b.count) × ((here a.bus j).request.rsv2 ≡ true) × (polled_on a.bus j ≡ polled_on b j)
switched_on b I j ok = let l = (known b (place j) (of_switch 1 (Ok tt)) ok).0 in (
  l,
  own_bit b I (call_of.Of (place j) (act_of.SecondRequest 1)) ok l,
  follow_polled b I j
      (room b I (call_of.Of (place j) (act_of.SecondRequest 1)) ok)
      (with_standing b.standing (second_request true (m.view_at (place j) (lines b) b))) l after.Settle refl refl
      refl,
)

accepted_served : (b : Bus) → Inv b → (c : Call) → is_accepted (m.verdict (lines b) b c) ≡ true
    → Served b c (m.accepted (lines b) b c)
accepted_served b I c ok = record {
  count = count_kept (e b I c ok).after (atn_of b) b (place_of c).0 (e b I c ok);
  service = next_service b I c ok;
  bit = λ j l. go j (next_bit b I c ok j l);
  switched = λ j _ h. subst (λ (c : Call). is_accepted (m.verdict (lines b) b c) ≡ true → let a = m.accepted (lines b) b
      c in (j < b.count) × ((here a.bus j).request.rsv2 ≡ true) × (polled_on a.bus j ≡ polled_on b j)) (sym h)
      (switched_on b I j) ok;
  stat = λ j h. subst (λ (c : Call). is_accepted (m.verdict (lines b) b c) ≡ true
      → (m.accepted (lines b) b c).event ≡ ev.Stat → Stat b (m.accepted (lines b) b c) j) (sym h) (step_stat b I j) ok;
}
  where
    told : (j : ℕ) → c ≡ call_of.Of (place j) act_of.Step → (e b I c ok).said.event ≡ ev.Stat
        → (m.accepted (lines b) b c).event ≡ ev.Stat
    told j h = subst (λ (c : Call). (ok : is_accepted (m.verdict (lines b) b c) ≡ true)
        → (e b I c ok).said.event ≡ ev.Stat → (m.accepted (lines b) b c).event ≡ ev.Stat) (sym h) (stat_event b I j) ok

    go : (j : ℕ) → ((here (m.accepted (lines b) b c).bus j).request.rsv2 ≡ (here b j).request.rsv2)
        ⊎ Turns c (e b I c ok).said.event j
        → ((here (m.accepted (lines b) b c).bus j).request.rsv2 ≡ (here b j).request.rsv2)
        ⊎ ((((m.accepted (lines b) b c).verdict ≡ Ok tt) × Switches c j)
        ⊎ Puts c (m.accepted (lines b) b c).event j)
    go j (inl h) = inl h
    go j (inr (inl h)) = inr (inl (accepted_says (e b I c ok).after (atn_of b) b (place_of c).0 (e b I c ok), h))
    go j (inr (inr h)) = inr (inr (h.0, told j h.0 h.1))

refused_served : (b : Bus) → Inv b → (c : Call) (v : Verdict) → is_accepted v ≡ false → Served b c (unmoved v b)
refused_served b I c v n = record {
  count = refl;
  service = λ j l. let h = ap (λ (p : Party). p.request) (I.still j) in
      sym (ap (λ (q : Request). q.service) h)
      ∙ ap (λ (n : ℕ). service_settled (here b j).request.service (asks n (here b j).request.rsv2)
      (polled_on b j)) (ap (λ (q : Request). q.live) h);
  bit = λ j l. inl refl;
  switched = λ j h. let z = ap is_accepted h in no (cc);
  stat = λ j h x. no (cc);
}

pub call_served : (b : Bus) → Inv b → (c : Call) → Served b c (m.call b c)
call_served b I c = cond-elim (Served b c) (is_accepted (m.verdict (lines b) b c)) (accepted_served b I c)
    (refused_served b I c (m.verdict (lines b) b c))
