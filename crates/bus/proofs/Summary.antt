-- The summary of one call: what the ledger reads of it. The lemmas below make it for each way in which a call ends.
-- Assumes nothing.
use mathlib.Core.Path.{◌≡◌, refl, sym, ap, ◌∙◌, subst}
use mathlib.Core.Bool.{Bool, true, false, not}
use mathlib.Core.List.{List}
use mathlib.Core.Logic.{◌⊎◌, inl, inr}
use Prim.Native.Nat.{ℕ, ◌+◌, ◌≤◌, ◌<◌}
use native.Mathlib.Omega.{arith}
use lib.ListN.{length, set, length-set}
use lib.Dec.{eqb}
use lib.Seq.{get_or-set_other}
use borrow.Author.Tests.{eqb-true, eq-eqb}
use Rattle.party.specs.Parts.{idle, one, held_bytes}
use Rattle.party.specs.Driving.{is_active, drives_ndac}
use Rattle.party.specs.Sending.{is_source}
use Rattle.party.specs.Settling.{settled}
use Rattle.role.proofs.Logic.{no, test}
use Rattle.role.proofs.Roles.{Addressed}
use Rattle.parties.specs.Places.{place, at, some, each, total}
use Rattle.parties.proofs.Places.{upd, Tail, at_set, at_each_all, some_set, some_none, total_set, total_each}
use Rattle.bus.specs.Types.{Place, Party, Acrs, Acds, Kind, Event, Standing, Bus, Said}
use Rattle.bus.specs.Types.{Answer, Call, Verdict}
use Rattle.bus.specs.Types.ev
use Rattle.bus.specs.Types.call_of
use Rattle.bus.specs.Types.act_of
use Rattle.bus.specs.Record.{here, lines, silent}
use Rattle.bus.specs.Machine.{verdict, accepted}
use Rattle.effect.specs.Calls.{is_accepted}
use Rattle.effect.specs.Stands.{stands}
use Rattle.effect.specs.Effects.{say, does}
use Rattle.bus.specs.Settling.{settle_bus_as, attend, deserted, settle}
use Rattle.bus.specs.Delivery.{is_put, is_end, is_take, is_host_put, wrote, held}
use Rattle.bus.proofs.Invariant.{look, Pre, Inv, atn_of, settled_idle, settle_inv}
use Rattle.bus.proofs.Change.{keep_pre, Kept, upd_all}
use Rattle.bus.proofs.Attention.{Raw, attend_inv, no_taker, attend_held}
use Rattle.std.specs.Prelude.{Option, Some, None, Ok}
use Rattle.effect.specs.Stands.{sent}
use Rattle.offer.specs.Offer.{byte}

-- What a call does to the standing byte: keeps it, puts one up, ends it, or breaks it off.
pub data Shape (st : Option Standing) (c : Call) (a : Answer) : Type 0 where
  keeps : is_put a.event ≡ false → is_end a.event ≡ false → a.broken ≡ 0 → a.bus.standing ≡ st → Shape st c a
  puts : is_put a.event ≡ true → is_end a.event ≡ false → a.broken ≡ 0 → st ≡ None → (s : Place) (k : Kind)
      → c ≡ call_of.Of s act_of.Step → a.bus.standing ≡ Some (sent s k a.byte a.end) → Shape st c a
  ends : is_put a.event ≡ false → is_end a.event ≡ true → a.broken ≡ 0 → (s : Place) (k : Kind)
      → c ≡ call_of.Of s act_of.Step → st ≡ Some (sent s k a.byte a.end) → a.bus.standing ≡ None → Shape st c a
  breaks : is_put a.event ≡ false → is_end a.event ≡ false → a.broken ≡ 1 → stands st ≡ true
      → a.bus.standing ≡ None → Shape st c a

-- by call c party j leaves, if it is accepted
abbrev pub Left : Call → ℕ → Type 0
Left c j = (c ≡ call_of.Of (place j) (act_of.ListenOnly 0)) ⊎ (c ≡ call_of.Of (place j) act_of.Reset)

-- party j steps and takes
abbrev pub Taking : Call → Event → ℕ → Type 0
Taking c x j = (c ≡ call_of.Of (place j) act_of.Step) × (is_take x ≡ true)

-- What becomes of a party that was in ACRS while a byte stood.
pub data Way (c : Call) (a : Answer) (j : ℕ) : Type 0 where
  stayed : (here a.bus j).acceptor ≡ Acrs → Way c a j
  took : Taking c a.event j → Way c a j
  left : a.verdict ≡ Ok tt → Left c j → Way c a j
  broke : a.broken ≡ 1 → Way c a j

pub record Takes (b : Bus) (a : Answer) (j : ℕ) : Type 0 where
  pub from : (here b j).acceptor ≡ Acrs
  pub to : (here a.bus j).acceptor ≡ Acds
  pub what : (s : Place) × (k : Kind) × (b.standing ≡ Some (sent s k a.byte a.end))
  pub input : a.event ≡ ev.Took → (here a.bus j).input ≡ Some (byte a.byte a.end)

-- The call c on the bus b, with the answer a.
pub record Good (b : Bus) (c : Call) (a : Answer) : Type 0 where
  pub inv : Inv a.bus
  pub shape : Shape b.standing c a
  -- the account of host bytes
  pub bytes : wrote c a.verdict + held b ≡ one (is_host_put a.event) + a.dropped + held a.bus
  -- a taking event is a step from ACRS to ACDS that takes what stands
  pub takes : is_take a.event ≡ true → (j : ℕ) → c ≡ call_of.Of (place j) act_of.Step → Takes b a j
  -- and nothing else leads from ACRS to ACDS
  pub silent : (j : ℕ) → (here b j).acceptor ≡ Acrs → (here a.bus j).acceptor ≡ Acds → Taking c a.event j
  -- nobody comes to ACRS while a byte stands
  pub rejoin : stands b.standing ≡ true → (j : ℕ) → (here a.bus j).acceptor ≡ Acrs → (here b j).acceptor ≡ Acrs
  -- who leaves ACRS while a byte stands took it, left, or saw it broken off
  pub leaves : stands b.standing ≡ true → (j : ℕ) → (here b j).acceptor ≡ Acrs → Way c a j
  -- a put changes no acceptor, and nothing ends while somebody is in ACRS
  pub ready : is_put a.event ≡ true → (j : ℕ) → (here a.bus j).acceptor ≡ (here b j).acceptor
  pub last : is_end a.event ≡ true → (j : ℕ) → (here b j).acceptor ≡ Acrs → ⊥

-- A refused call.
pub refused : (b : Bus) (c : Call) (r : Verdict) → Inv b → wrote c r ≡ 0 → Good b c (silent r b)
refused b c r I w = record {
  inv = I;
  shape = keeps refl refl refl refl;
  bytes = rw w refl;
  takes = λ h. no (cc);
  silent = λ j e f. no (cc);
  rejoin = λ s j e. e;
  leaves = λ s j e. stayed e;
  ready = λ h. no (cc);
  last = λ h. no (cc);
}

-- what is to show of a call that is accepted
abbrev pub Fine : Bus → Call → Type 0
Fine b c = is_accepted (verdict (lines b) b c) ≡ true → Good b c (accepted (lines b) b c)

-- and of one by which party i becomes q while what stands stays, with an answer that says s
abbrev pub Becomes : Bus → Call → ℕ → Said → Party → Type 0
Becomes b c i s q = Good b c (settle (atn_of b) b i (does s q b.standing))

-- the parties after settling
pub seen_settled : (b : Bus) (t : Bool) (ps : List Party) → length ps ≡ 15 → b.count ≤ 15 → Tail b.count ps
    → (j : ℕ) → at (each b.count (settled t) ps) j ≡ settled t (at ps j)
seen_settled b t ps z l tail j = ap (λ (w : ℕ → Party). w j)
    (at_each_all b.count (settled t) ps (settled_idle t) (omega arith) tail)

-- One party changes: the parties then.
module _ (b : Bus) (I : Inv b) (i : ℕ) (l : i < b.count) (q : Party) where
  pub inside : i < length b.parties
  inside = let z = I.size in let s = I.small in omega arith

  changed_tail : Tail b.count (set b.parties i q)
  changed_tail j h = get_or-set_other b.parties i j q idle (λ e. bad e) ∙ I.pre.tail j h
    where
      bad : j ≡ i → ⊥
      bad e = omega arith

  changed : (t : Bool) (j : ℕ) → at (each b.count (settled t) (set b.parties i q)) j ≡ settled t (upd (here b) i q
      j)
  changed t j = seen_settled b t (set b.parties i q) (length-set b.parties i q ∙ I.size) I.small changed_tail
      j ∙ ap (λ (w : ℕ → Party). settled t (w j)) (at_set b.parties i q inside)

  pub changed_acc : (t : Bool) (j : ℕ) → (at (each b.count (settled t) (set b.parties i q)) j).acceptor ≡ (upd (here
      b) i q j).acceptor
  changed_acc t j = ap (λ (p : Party). p.acceptor) (changed t j)

  pub changed_input : (t : Bool) (j : ℕ) → (at (each b.count (settled t) (set b.parties i q)) j).input ≡ (upd (here
      b) i q j).input
  changed_input t j = ap (λ (p : Party). p.input) (changed t j)

  pub set_held : total b.count held_bytes (set b.parties i q) + held_bytes (here b i) ≡ held b + held_bytes q
  set_held = total_set b.count held_bytes b.parties i q l inside

  pub changed_held : (t : Bool) → total b.count held_bytes (each b.count (settled t) (set b.parties i q)) +
      held_bytes (here b i) ≡ held b + held_bytes q
  changed_held t = rw (total_each b.count held_bytes (settled t) (set b.parties i q) (λ p. refl)) set_held

  pub touch_inv : (s : Said) (st : Option Standing) → is_active q ≡ is_active (here b i)
      → Pre b.count (atn_of b) (upd (here b) i q) st → Inv (settle (atn_of b) b i (does s q st)).bus
  touch_inv s st e P = settle_inv b (atn_of b) s (set b.parties i q) st (length-set b.parties i q ∙ I.size)
      I.small (some_set b.count is_active b.parties i q e)
      (subst (λ (w : ℕ → Party). Pre b.count (atn_of b) w st) (sym (at_set b.parties i q inside)) P)

  same_here : upd (here b) i q i ≡ q
  same_here = rw (eq-eqb i i refl)

-- Party i becomes q, what stands stays, and the answer says s: what a call of that kind says and does.
pub record Word (b : Bus) (c : Call) (i : ℕ) (s : Said) (q : Party) : Type 0 where
  pub not_put : is_put s.event ≡ false
  pub not_end : is_end s.event ≡ false
  pub acct : wrote c (Ok tt) + held_bytes (here b i) ≡ one (is_host_put s.event) + s.dropped + held_bytes q
  pub caller : (j : ℕ) → c ≡ call_of.Of (place j) act_of.Step → j ≡ i
  pub takes : is_take s.event ≡ true → ((here b i).acceptor ≡ Acrs) × (q.acceptor ≡ Acds) × ((r : Place) × (k : Kind)
      × (b.standing ≡ Some (sent r k s.byte s.end))) × (s.event ≡ ev.Took → q.input ≡ Some (byte s.byte s.end))
  pub silent : (here b i).acceptor ≡ Acrs → q.acceptor ≡ Acds → Taking c s.event i
  pub rejoin : stands b.standing ≡ true → q.acceptor ≡ Acrs → (here b i).acceptor ≡ Acrs
  pub leaves : stands b.standing ≡ true → (here b i).acceptor ≡ Acrs
      → (q.acceptor ≡ Acrs) ⊎ Taking c s.event i ⊎ Left c i

pub deserted_stands : (t : Bool) (ps : List Party) (st : Option Standing) → deserted t ps st ≡ true → stands st ≡ true
deserted_stands t ps None e = e
deserted_stands t ps (Some st) e = refl

pub kept_good : (b : Bus) (c : Call) → Inv b → (i : ℕ) → i < b.count → (s : Said) (q : Party)
    → Kept (atn_of b) b.standing (here b i) q
    → Addressed (atn_of b) (λ j. look b.standing j (upd (here b) i q j))
    → Word b c i s q → Becomes b c i s q
kept_good b c I i l s q K o W = record {
  inv = touch_inv b I i l q s b.standing K.act
      (keep_pre b.count (atn_of b) (here b) b.standing I.pre i l q K o);
  shape = shape (deserted t qs b.standing) refl;
  bytes = let w = W.acct in let k = changed_held b I i l q t in omega arith;
  takes = λ h j e. taking h j (W.caller j e);
  silent = λ j e f. acds j e (sym (acc j) ∙ f);
  rejoin = λ h j e. back h j (sym (acc j) ∙ e);
  leaves = λ h j k. test (eqb j i) (λ e. way j (eqb-true j i e) (W.leaves h (rw (eqb-true j i e) at k)))
      (λ e. let o : (upd (here b) i q j).acceptor ≡ (here b j).acceptor = rw e in stayed (acc j ∙ o ∙ k));
  ready = λ h. let z = W.not_put in no (cc);
  last = λ h. let z = W.not_end in no (cc);
}
  where
    qs : List Party
    qs = set b.parties i q

    t : Bool
    t = atn_of b

    a : Answer
    a = settle (atn_of b) b i (does s q b.standing)

    acc : (j : ℕ) → (here a.bus j).acceptor ≡ (upd (here b) i q j).acceptor
    acc = changed_acc b I i l q t

    shape : (x : Bool) → deserted t qs b.standing ≡ x → Shape b.standing c (settle_bus_as t x b s qs b.standing)
    shape false e = keeps W.not_put W.not_end refl refl
    shape true e = breaks W.not_put W.not_end refl (deserted_stands t qs b.standing e) refl

    taking : is_take s.event ≡ true → (j : ℕ) → j ≡ i → Takes b a j
    taking h j e = let w = W.takes h in record {
      from = rw e w.0;
      to = acc j ∙ ap (λ (x : ℕ). (upd (here b) i q x).acceptor) e
          ∙ ap (λ (p : Party). p.acceptor) (same_here b I i l q) ∙ w.1;
      what = w.2;
      input = λ u. changed_input b I i l q t j ∙ ap (λ (x : ℕ). (upd (here b) i q x).input) e
          ∙ ap (λ (p : Party). p.input) (same_here b I i l q) ∙ w.3 u;
    }

    acds : (j : ℕ) → (here b j).acceptor ≡ Acrs → (upd (here b) i q j).acceptor ≡ Acds → Taking c s.event j
    acds = upd_all (here b) i q (λ j x. (here b j).acceptor ≡ Acrs → x.acceptor ≡ Acds → Taking c s.event j)
        W.silent (λ j ne e f. no (cc))

    back : stands b.standing ≡ true → (j : ℕ) → (upd (here b) i q j).acceptor ≡ Acrs → (here b j).acceptor ≡ Acrs
    back h = upd_all (here b) i q (λ j x. x.acceptor ≡ Acrs → (here b j).acceptor ≡ Acrs) (W.rejoin h) (λ j ne e. e)

    way : (j : ℕ) → j ≡ i → (q.acceptor ≡ Acrs) ⊎ Taking c s.event i ⊎ Left c i → Way c a j
    way j e (inl h) = stayed (acc j ∙ ap (λ (x : ℕ). (upd (here b) i q x).acceptor) e ∙ ap (λ (p : Party). p.acceptor)
        (same_here b I i l q) ∙ h)
    way j e (inr (inl h)) = took (rw e h)
    way j e (inr (inr h)) = left refl (rw e h)

-- Party i becomes q, its acceptor as it was: the other acceptors too are as they were.
module _ (b : Bus) (I : Inv b) (i : ℕ) (l : i < b.count) (q : Party) (eq : q.acceptor ≡ (here b i).acceptor) where
  same_acc : (t : Bool) (j : ℕ) → (at (each b.count (settled t) (set b.parties i q)) j).acceptor ≡ (here b j
      ).acceptor
  same_acc t j = changed_acc b I i l q t j ∙ upd_all (here b) i q (λ j y. y.acceptor ≡ (here b j).acceptor) eq (λ j ne.
      refl) j

-- A byte is put.
pub put_good : (b : Bus) → Inv b → (p : Place) → p.0 < b.count → (x : Event) (q : Party) (k : Kind) (v : ℕ) (e : Bool)
    → is_put x ≡ true → is_end x ≡ false → is_take x ≡ false → b.standing ≡ None
    → is_active q ≡ is_active (here b p.0) → q.acceptor ≡ (here b p.0).acceptor → is_source (atn_of b) q ≡ true
    → held_bytes (here b p.0) ≡ one (is_host_put x) + held_bytes q
    → Pre b.count (atn_of b) (upd (here b) p.0 q) (Some (sent p k v e))
    → Good b (call_of.Of p act_of.Step) (settle (atn_of b) b p.0 (does (say x v e 0) q (Some (sent p k v e))))
put_good b I p l x q k v e ip ie it st ac eq so w P = record {
  inv = touch_inv b I p.0 l q (say x v e 0) (Some (sent p k v e)) ac P;
  shape = subst (λ (y : Bool). Shape b.standing (call_of.Of p act_of.Step)
      (settle_bus_as t (not y) b (say x v e 0) qs (Some (sent p k v e)))) (sym ok) (puts ip ie refl st p k refl refl);
  bytes = let h = changed_held b I p.0 l q t in omega arith;
  takes = λ h. no (cc);
  silent = λ j f g. let z = acc j in no (cc);
  rejoin = λ h. no (cc);
  leaves = λ h. no (cc);
  ready = λ h j. acc j;
  last = λ h. no (cc);
}
  where
    qs : List Party
    qs = set b.parties p.0 q

    t : Bool
    t = atn_of b

    ok : is_source t (at qs p.0) ≡ true
    ok = (ap (λ (w : ℕ → Party). is_source (atn_of b) (w p.0)) (at_set b.parties p.0 q (inside b I p.0 l q))
        ∙ ap (is_source (atn_of b)) (same_here b I p.0 l q) ∙ so)

    acc : (j : ℕ) → (at (each b.count (settled t) qs) j).acceptor ≡ (here b j).acceptor
    acc = same_acc b I p.0 l q eq t

-- with NDAC false nobody is ready
pub none_ready : (b : Bus) → Inv b → some b.count drives_ndac b.parties ≡ false → (j : ℕ)
    → (here b j).acceptor ≡ Acrs → ⊥
none_ready b I e j h = let z = some_none b.count drives_ndac b.parties refl I.pre.tail e j in
    let y = ready (here b j) h in no (cc)
  where
    ready : (p : Party) → p.acceptor ≡ Acrs → drives_ndac p ≡ true
    ready p e = rw e

-- A byte ends.
pub end_good : (b : Bus) → Inv b → (p : Place) → p.0 < b.count → (q : Party) (k : Kind) (v : ℕ) (e : Bool)
    → b.standing ≡ Some (sent p k v e) → some b.count drives_ndac b.parties ≡ false
    → is_active q ≡ is_active (here b p.0) → q.acceptor ≡ (here b p.0).acceptor → q.held ≡ (here b p.0).held
    → Pre b.count (atn_of b) (upd (here b) p.0 q) None
    → Good b (call_of.Of p act_of.Step) (settle (atn_of b) b p.0 (does (say ev.Ended v e 0) q None))
end_good b I p l q k v e st nd ac eq eh P = record {
  inv = touch_inv b I p.0 l q (say ev.Ended v e 0) None ac P;
  shape = ends refl refl refl p k refl st refl;
  bytes = let h = changed_held b I p.0 l q t in let k : held_bytes q ≡ held_bytes (here b p.0) = rw eh refl in
      omega arith;
  takes = λ h. no (cc);
  silent = λ j f g. let z = acc j in no (cc);
  rejoin = λ h j f. sym (acc j) ∙ f;
  leaves = λ h j f. absurd (none_ready b I nd j f);
  ready = λ h. no (cc);
  last = λ h j f. none_ready b I nd j f;
}
  where
    t : Bool
    t = atn_of b

    acc : (j : ℕ) → (at (each b.count (settled t) (set b.parties p.0 q)) j).acceptor ≡ (here b j).acceptor
    acc = same_acc b I p.0 l q eq t

-- A call that attention follows breaks off what stands.
pub alarm_good : (b : Bus) (c : Call) → Inv b → (d : ℕ) (ps : List Party) → length ps ≡ 15 → Raw b.count (at ps)
    → wrote c (Ok tt) + held b ≡ d + total b.count held_bytes ps
    → Good b c (attend b (say ev.None 0 false d) ps b.standing)
alarm_good b c I d ps z R w = record {
  inv = attend_inv b s ps b.standing z I.small R;
  shape = shape b.standing;
  bytes = let h = attend_held b s ps b.standing z I.small R in omega arith;
  takes = λ h. no (cc);
  silent = λ j a f. absurd (no_taker b s ps b.standing z I.small R j (inr f));
  rejoin = λ h j f. absurd (no_taker b s ps b.standing z I.small R j (inl f));
  leaves = λ h j f. broke (ap one h);
  ready = λ h. no (cc);
  last = λ h. no (cc);
}
  where
    s : Said
    s = say ev.None 0 false d

    shape : (st : Option Standing) → Shape st c (attend b (say ev.None 0 false d) ps st)
    shape None = keeps refl refl refl refl
    shape (Some st) = breaks refl refl refl refl refl

-- Control is passed: the command ends, and attention follows.
pub pass_good : (b : Bus) → Inv b → (p : Place) (k : Kind) (d v : ℕ) (e : Bool) (ps : List Party) → length ps ≡ 15
    → Raw b.count (at ps)
    → b.standing ≡ Some (sent p k v e) → some b.count drives_ndac b.parties ≡ false
    → held b ≡ d + total b.count held_bytes ps
    → Good b (call_of.Of p act_of.Step) (attend b (say ev.Passed v e d) ps None)
pass_good b I p k d v e ps z R st nd w = record {
  inv = attend_inv b s ps None z I.small R;
  shape = ends refl refl refl p k refl st refl;
  bytes = let h = attend_held b s ps None z I.small R in omega arith;
  takes = λ h. no (cc);
  silent = λ j a f. absurd (no_taker b s ps None z I.small R j (inr f));
  rejoin = λ h j f. absurd (no_taker b s ps None z I.small R j (inl f));
  leaves = λ h j f. absurd (none_ready b I nd j f);
  ready = λ h. no (cc);
  last = λ h j f. none_ready b I nd j f;
}
  where
    s : Said
    s = say ev.Passed v e d
