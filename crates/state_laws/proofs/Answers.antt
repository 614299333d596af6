-- What every answer has: how much is dropped and broken off, and which refusals there are.
-- Assumes nothing.
use mathlib.Core.Path.{◌≡◌, refl}
use mathlib.Core.Bool.{Bool, true, false, not, cond, ◌||◌}
use mathlib.Core.List.{List, [], ◌∷◌}
use mathlib.Core.Logic.{◌⊎◌, inl, inr}
use Prim.Native.Nat.{ℕ, zero, suc, ◌≤◌}
use native.Mathlib.Omega.{arith}
use Rattle.std.specs.Prelude.{Option, Some, None, Ok, Err, is_some}
use lib.Dec.{eqb, ltb}
use lib.ListN.{set}
use Rattle.offer.specs.Offer.{kind_of}
use Rattle.role.proofs.Logic.{no, test, cond-elim}
use Rattle.party.specs.Parts.{one, held_bytes}
use Rattle.party.specs.Driving.{is_active}
use Rattle.party.specs.Sending.{is_source, is_polled, offer}
use Rattle.party.specs.Settling.{cleared, clear_drops}
use Rattle.parties.specs.Places.{at, total}
use Rattle.parties.proofs.Places.{total_zero}
use Rattle.effect.specs.Calls.{switch_of, is_accepted, place_of, is_on, verdict_number}
use Rattle.effect.specs.Stands.{stands, sends}
use Rattle.effect.specs.Effects.{with_standing}
use Rattle.refusals.specs.Refusals.{of_switch, write_refusal, listen_refusal, talk_refusal, in_standby, own, judge}
use Rattle.refusals.specs.Refusals.{active_refusal}
use Rattle.source_step.specs.SourceStep.{ready, ended, source_in}
use Rattle.acceptor_step.specs.AcceptorStep.{takes, acceptor_in}
use Rattle.host_calls.specs.HostCalls.{read_out}
use Rattle.accepted.specs.Accepted.{effect_of}
use Rattle.bus.specs.declared.Bus.{Bus}
use Rattle.bus.specs.declared.Answer.{Answer}
use Rattle.bus.specs.Types.{Place, Party, Source, Sids, Sgns, Sdys, Strs, Acceptor, Anrs, Acrs, Awns}
use Rattle.bus.specs.Types.{Byte, Kind, Standing, Call, Act, Verdict, After, Outcome, Effect, View}
use Rattle.bus.specs.Types.ruling
use Rattle.bus.specs.Types.after
use Rattle.bus.specs.Types.call_of
use Rattle.bus.specs.Types.act_of
use Rattle.bus.specs.Record.{here, lines}
use Rattle.bus.specs.Settling.{deserted, followed}
use Rattle.bus.specs.Machine as m
use Rattle.bus.proofs.Invariant.{Inv, active_busy}
use Rattle.bus.proofs.Reached as reached
use Rattle.runner.proofs.Led.{led_inv}
use Rattle.state_laws.specs.States.{FewDropped, OneBroken, RefusedLeaves, NeverRecord}

at_most_one : (x : Bool) → one x ≤ 1
at_most_one true = omega arith
at_most_one false = omega arith

held_one : (p : Party) → held_bytes p ≤ 1
held_one p = at_most_one (is_some p.held)

-- A call's own effect drops one byte at the most: that of its party.
module _ (v : View) where
  abbrev Drops : Effect → Type 0
  Drops e = e.said.dropped ≤ 1

  none : 0 ≤ 1
  none = omega arith

  ready_drops : (o : Option Byte) (k : Kind) → Drops (ready o k v)
  ready_drops None k = none
  ready_drops (Some y) k = cond-elim Drops v.lines.nrfd (λ _. none)
      (λ _. cond-elim Drops v.lines.ndac (λ _. none) (λ _. none))

  ended_drops : (st : Option Standing) → Drops (ended st v)
  ended_drops None = none
  ended_drops (Some st) = none

  source_drops : (s : Source) (o : Option Byte) (k : Kind) → Drops (source_in s o k v)
  source_drops Sids o k = none
  source_drops Sgns o k = cond-elim Drops (is_some o) (λ _. none) (λ _. none)
  source_drops Sdys o k = ready_drops o k
  source_drops Strs o k = cond-elim Drops v.lines.ndac (λ _. none) (λ _. ended_drops v.standing)

  takes_drops : (st : Option Standing) → Drops (takes st v)
  takes_drops None = none
  takes_drops (Some st) = cond-elim Drops v.lines.atn (λ _. none) (λ _. none)

  acceptor_drops : (a : Acceptor) → Drops (acceptor_in a v)
  acceptor_drops Anrs = cond-elim Drops (v.lines.atn || not (is_some v.party.input)) (λ _. none) (λ _. none)
  acceptor_drops Acrs = cond-elim Drops v.lines.dav (λ _. takes_drops v.standing) (λ _. none)
  acceptor_drops Awns = cond-elim Drops v.lines.dav (λ _. none) (λ _. none)
  acceptor_drops a = none

  read_drops : (s : Option Byte) → Drops (with_standing v.standing (read_out s v.party))
  read_drops None = none
  read_drops (Some y) = none

effect_drops : (v : View) (c : Call) → Drops v (effect_of v c)
effect_drops v (call_of.Of i act_of.Step) = let t = v.lines.atn in let p = v.party in
    cond-elim (Drops v) (is_source t p)
    (λ _. source_drops v p.source (offer (is_polled t p) p) (kind_of (is_active p) (is_polled t p)))
    (λ _. acceptor_drops v p.acceptor)
effect_drops v (call_of.Of i act_of.Read) = read_drops v v.party.input
effect_drops v (call_of.Of i act_of.TakeControl) = held_one v.party
effect_drops v (call_of.Of i act_of.GoToStandby) = held_one v.party
effect_drops v (call_of.Of i act_of.Reset) =
    cond-elim (λ (o : Outcome). o.said.dropped ≤ 1) (is_active v.party) (λ _. held_one v.party)
    (λ _. held_one v.party)
effect_drops v (call_of.Of i act_of.Drop) = held_one v.party
effect_drops v c = none v

-- Of parties of which one at the most is active, interface clear drops one byte at the most.
clears_one : (n : ℕ) (ps : List Party)
    → ((i j : ℕ) → is_active (at ps i) ≡ true → is_active (at ps j) ≡ true → i ≡ j) → total n clear_drops ps ≤ 1
clears_one zero ps h = omega arith
clears_one (suc n) [] h = omega arith
clears_one (suc n) (p ∷ ps) h = test (is_active p)
    (λ e. let z = total_zero n clear_drops ps (λ j. rw (other e j)) in let y = held_one p in rw (e, z) (omega arith))
    (λ e. let r = clears_one n ps (λ i j f g. pred (h (suc i) (suc j) f g)) in rw e (omega (arith, r)))
  where
    pred : {i j : ℕ} → suc i ≡ suc j → i ≡ j
    pred e = omega arith

    other : is_active p ≡ true → (j : ℕ) → is_active (at ps j) ≡ false
    other e j = test (is_active (at ps j)) (λ f. absurd (bad (h 0 (suc j) e f))) (λ f. f)
      where
        bad : 0 ≡ suc j → ⊥
        bad q = omega arith

module _ (b : Bus) (I : Inv b) where
  followed_drops : (x : After) (t : Bool) (i : ℕ) (e : Effect) → e.said.dropped ≤ 1
      → (followed x t b i e).dropped ≤ 2
  followed_drops (after.Pass j) t i e h =
      let y = held_one e.party in let z = held_one (here b j.0) in omega arith
  followed_drops after.Clear t i e h =
      let y = clears_one b.count b.parties
      (λ k j f g. I.pre.charge k j (active_busy (here b k) f) (active_busy (here b j) g)) in
      let z = held_one (cleared (here b i)) in
      omega arith
  followed_drops x t i e h = omega arith

pub few_dropped : FewDropped
few_dropped b led c =
    let l = lines b in
    let v = m.view_at (place_of c) l b in
    cond-elim (λ (a : Answer). a.dropped ≤ 2) (is_accepted (m.verdict l b c))
    (λ _. followed_drops b (led_inv b led) (effect_of v c).after l.atn (place_of c).0 (effect_of v c)
    (effect_drops v c))
    (λ _. omega arith)

followed_breaks : (x : After) (t : Bool) (b : Bus) (i : ℕ) (e : Effect) → (followed x t b i e).broken ≤ 1
followed_breaks after.Settle t b i e = at_most_one (deserted t (set b.parties i e.party) e.standing)
followed_breaks after.Poll t b i e = at_most_one (deserted t (set b.parties i e.party) e.standing)
followed_breaks x t b i e = at_most_one (stands e.standing)

pub one_broken : OneBroken
one_broken b c =
    let l = lines b in
    let v = m.view_at (place_of c) l b in
    cond-elim (λ (a : Answer). a.broken ≤ 1) (is_accepted (m.verdict l b c))
    (λ _. followed_breaks (effect_of v c).after l.atn b (place_of c).0 (effect_of v c))
    (λ _. omega arith)

pub refused_leaves : RefusedLeaves
refused_leaves = reached.refused_leaves

-- The verdicts that a call can meet: no refusal, or one up to 9, and of these BADVALUE for an END or a switch over 1
-- alone; or NOREG, if it asks for no register that is carried.
abbrev is_met : ℕ → Verdict → Bool
is_met s r = let n = verdict_number r in cond (eqb n 3) (ltb 1 s) (ltb n 10)

abbrev switch_in : Call → ℕ
switch_in (call_of.Of p a) = switch_of a
switch_in c = 0

abbrev pub Met : Call → Verdict → Type 0
Met c r = (is_met (switch_in c) r ≡ true)
    ⊎ ((r ≡ Err ruling.NoReg) × ((p : Place) × (c ≡ call_of.Of p act_of.NoRegister)))

-- one verdict or the other
either : (s : ℕ) (x : Bool) (r t : Verdict) → is_met s r ≡ true → is_met s t ≡ true → is_met s (cond x r t) ≡ true
either s true r t f g = f
either s false r t f g = g

switched : (s : ℕ) (r : Verdict) → is_met s r ≡ true → is_met s (of_switch s r) ≡ true
switched s r f = cond-elim (λ (x : Verdict). is_met s x ≡ true) (ltb 1 s) (λ h. h) (λ _. f)

write_met : (s : ℕ) (v : View) → is_met s (write_refusal v) ≡ true
write_met s v = either s (is_some v.party.held) _ _ refl refl

active_met : (v : View) → is_met 0 (active_refusal (is_active v.party) (sends v)) ≡ true
active_met v = either 0 (is_active v.party) _ _ (either 0 (sends v) _ _ refl refl) refl

own_met : (v : View) (i : Place) (a : Act) → Met (call_of.Of i a) (own v a)
own_met v i (act_of.Write x e) = inl (switched e (write_refusal v) (write_met e v))
own_met v i act_of.Read = inl (either 0 (is_some v.party.input) _ _ refl refl)
own_met v i (act_of.ListenOnly on) = inl (switched on (listen_refusal (is_on on) v.party.role.talk)
    (either on (is_on on) _ _ (either on v.party.role.talk _ _ refl refl) refl))
own_met v i (act_of.TalkOnly on) = inl (switched on (talk_refusal (is_on on) v)
    (either on (is_on on) _ _ (either on v.party.role.listen _ _ refl
    (either on v.lines.atn _ _ refl (either on (is_some v.talker) _ _ refl refl))) refl))
own_met v i act_of.TakeControl = inl (either 0 (in_standby v.party.control) _ _ refl refl)
own_met v i act_of.GoToStandby = inl (active_met v)
own_met v i act_of.InterfaceClear = inl (either 0 v.chief _ _ refl refl)
own_met v i act_of.Reset = inl (either 0 (sends v) _ _ refl refl)
own_met v i (act_of.SecondRequest on) = inl (switched on (Ok tt) refl)
own_met v i (act_of.DataOut x) = inl (write_met 0 v)
own_met v i act_of.NoRegister = inr (refl, (i, refl))
own_met v i (act_of.OwnStatus on) = inl (switched on (Ok tt) refl)
own_met v i act_of.ParallelPoll = inl (active_met v)
own_met v i a = inl refl

judge_met : (v : View) (c : Call) → Met c (judge v c)
judge_met v (call_of.Of i a) = cond-elim (Met (call_of.Of i a)) v.inside (λ _. own_met v i a) (λ _. inl refl)
judge_met v c = inl refl

followed_met : (s : ℕ) (x : After) (t : Bool) (b : Bus) (i : ℕ) (e : Effect)
    → is_met s (followed x t b i e).verdict ≡ true
followed_met s after.Settle t b i e = refl
followed_met s x t b i e = refl

pub call_met : (b : Bus) (c : Call) → Met c (m.call b c).verdict
call_met b c =
    let l = lines b in
    let v = m.view_at (place_of c) l b in
    cond-elim (λ (a : Answer). Met c a.verdict) (is_accepted (m.verdict l b c))
    (λ _. inl (followed_met (switch_in c) (effect_of v c).after l.atn b (place_of c).0 (effect_of v c)))
    (λ _. judge_met v c)

pub never_record : NeverRecord
never_record b c e = go (call_met b c)
  where
    go : Met c (m.call b c).verdict → ⊥
    go (inl h) = let z : false ≡ true = rw e at h in no (cc)
    go (inr h) = let z = h.0 in no (cc)
