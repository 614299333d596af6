-- The host calls that change who is in charge: take control, go to standby, reset, interface clear. And lines.
-- Assumes nothing.
use mathlib.Core.Path.{◌≡◌, refl, sym, ap, ◌∙◌, subst}
use mathlib.Core.Bool.{Bool, true, false, not, cond, ◌&&◌, ◌||◌}
use mathlib.Core.List.{List}
use mathlib.Core.Logic.{inr}
use Prim.Native.Nat.{ℕ, ◌+◌, ◌≤◌, ◌<◌}
use native.Mathlib.Omega.{arith}
use lib.Dec.{eqb}
use lib.ListN.{length, set, length-set}
use lib.Seq.{set-get_or}
use borrow.Author.Tests.{eq-eqb}
use Rattle.party.specs.Parts.{idle, one, held_bytes, with_acceptor}
use Rattle.party.specs.Driving.{is_active}
use Rattle.party.specs.Settling.{wiped, cleared, clear_drops, change_control, settled}
use Rattle.role.proofs.Logic.{no, test, cond-elim}
use Rattle.role.proofs.Roles.{name_of, Single, Weak, weak_unaddressed}
use Rattle.parties.specs.Places.{place, at, each, total}
use Rattle.parties.specs.Lines.{lines_byte}
use Rattle.parties.proofs.Places.{upd, at_set, at_each_all, length_each, total_set, total_each, total_split}
use Rattle.bus.specs.Types.{Place, Party, Control, Idle, Standby, Active, Acceptor, Aids, Anrs, Acrs, Acds}
use Rattle.bus.specs.Types.{Standing, Bus, Said, Call, Outcome}
use Rattle.bus.specs.Types.ruling
use Rattle.bus.specs.Types.ev
use Rattle.bus.specs.Types.call_of
use Rattle.bus.specs.Types.act_of
use Rattle.bus.specs.Record.{here, lines}
use Rattle.effect.specs.Stands.{of_command, sends_command}
use Rattle.effect.specs.Effects.{say, stay, quiet, with_standing}
use Rattle.bus.specs.Settling.{settle_bus, settle_bus_as, deserted, attention, settle, follow}
use Rattle.host_calls.specs.HostCalls.{controlled, reset_acceptor, tell}
use Rattle.refusals.specs.Refusals.{in_standby, active_refusal}
use Rattle.bus.specs.Machine.{view_at}
use Rattle.bus.specs.Delivery.{deed, neither, is_put, is_host_put, is_take, is_end, is_write, wrote, held}
use Rattle.bus.proofs.Invariant.{busy, active_busy, sent_by, is_command, in_acrs, is_acrs, waits, look, Inv, atn_of}
use Rattle.bus.proofs.Invariant.{settle_inv}
use Rattle.bus.proofs.Change.{upd_all, Unique, upd_unique, same_apart, upd_apart, weak_look}
use Rattle.bus.proofs.Putting.{role_heard_lem}
use Rattle.bus.proofs.Attention.{Raw}
use Rattle.bus.proofs.Accepting.{if_so, if_not, known, stands_dav, joining_away, joining_dav}
use Rattle.bus.proofs.Summary.{Shape, keeps, breaks, stayed, Good, inside, set_held, seen_settled}
use Rattle.bus.proofs.Summary.{Fine, Becomes, deserted_stands, kept_good, alarm_good}
use Rattle.std.specs.Prelude.{Option, Some, None, Ok, Err, is_some}

-- One party changes flags or control while no command stands: the parties are fit for attention.
pub raw_set : (b : Bus) → Inv b → (i : ℕ) → i < b.count → (q : Party) → is_command b.standing ≡ false
    → name_of q.role ≡ name_of (here b i).role → (busy q.control ≡ true → busy (here b i).control ≡ true)
    → (q.role.talk ≡ true → (here b i).role.talk ≡ true) → Single q.role
    → Raw b.count (at (set b.parties i q))
raw_set b I i l q c ea ec et al = subst (λ (w : ℕ → Party). Raw b.count w)
    (sym (at_set b.parties i q (inside b I i l q))) (record {
      tail = upd_all v i q (λ j x. b.count ≤ j → x ≡ idle) (λ h. absurd (bad h)) (λ j ne. I.pre.tail j);
      charge = upd_unique v i q (λ x. busy x.control) I.pre.charge
          (λ h j e ne. ne (I.pre.charge j i e (ec h)));
      addr = upd_apart b.count v i q ea I.pre.addr;
      talk = upd_unique v i q (λ x. x.role.talk) u (λ h j e ne. ne (u j i e (et h)));
      apart = upd_all v i q (λ j x. Single x.role) al (λ j ne. I.pre.apart j);
    })
  where
    v : ℕ → Party
    v = here b

    u : Unique (λ x. x.role.talk) (here b)
    u = (role_heard_lem b.count (atn_of b) (here b) b.standing I.pre c).one

    bad : b.count ≤ i → ⊥
    bad h = omega arith

pub set_len : (b : Bus) → Inv b → (i : ℕ) (q : Party) → length (set b.parties i q) ≡ 15
set_len b I i q = length-set b.parties i q ∙ I.size

-- a command stands: its sender is active
commander : (b : Bus) → Inv b → (st : Option Standing) → b.standing ≡ st → is_command st ≡ true
    → (j : ℕ) × ((is_active (here b j) ≡ true) × (sends_command j st ≡ true))
commander b I None e h = no (cc)
commander b I (Some st) e h = let s = st.sender.0 in let q = eq-eqb s s refl in
    (s, (I.pre.leads (rw e h) s (rw e q), rw h q))

standby_busy : (c : Control) → in_standby c ≡ true
    → (busy c ≡ true) × (elim c [ Idle ↦ false | Standby ↦ false | Active ↦ true ] ≡ false)
standby_busy Standby e = (refl, refl)
standby_busy c e = no (cc)

module _ (b : Bus) (I : Inv b) (p : Place) where
  -- no command of another stands where p is in charge and sends none
  quietly : busy (here b p.0).control ≡ true → sends_command p.0 b.standing ≡ false
      → is_command b.standing ≡ false
  quietly h f = test (is_command b.standing) (λ e. no (bad (commander b I b.standing refl e))) (λ e. e)
    where
      bad : (j : ℕ) × ((is_active (here b j) ≡ true) × (sends_command j b.standing ≡ true)) → ◌≡◌ {A = ℕ} 0 1
      bad r = let z = I.pre.charge r.0 p.0 (active_busy (here b r.0) r.1.0) h in let y = r.1.1 in
          let w = ap (λ (x : ℕ). sends_command x b.standing) z in cc

  -- a party in standby sends no command
  standing_by : is_active (here b p.0) ≡ false → sends_command p.0 b.standing ≡ false
  standing_by e = test (sends_command p.0 b.standing) (λ f. no (go b.standing refl f)) (λ f. f)
    where
      go : (st : Option Standing) → b.standing ≡ st → sends_command p.0 st ≡ true → ◌≡◌ {A = ℕ} 0 1
      go None h f = cc
      go (Some st) h f = test (of_command st.kind)
          (λ q. let y = rw q at f in let z = I.pre.leads (rw h q) p.0 (rw h y) in cc)
          (λ q. let y = rw q at f in cc)

  -- who is in charge comes to control c: attention follows
  controlled_good : (c : Call) (x : Control) → wrote c (Ok tt) ≡ 0 → p.0 < b.count
      → busy (here b p.0).control ≡ true → sends_command p.0 b.standing ≡ false
      → Good b c (attention b p.0 (with_standing b.standing (controlled x (view_at p (lines b) b))))
  controlled_good c x w l h f = alarm_good b c I (held_bytes (here b p.0)) (set b.parties p.0 new)
      (set_len b I p.0 new)
      (raw_set b I p.0 l new (quietly h f) refl (λ _. h) (λ y. y) (I.pre.apart p.0))
      (let k = set_held b I p.0 l new in rw w (omega arith))
    where
      new : Party
      new = change_control x (here b p.0)

  pub take_good : Fine b (call_of.Of p act_of.TakeControl)
  take_good ok = let r = known b p (cond (in_standby (here b p.0).control) (Ok tt) (Err ruling.Role)) ok in
      let h = standby_busy (here b p.0).control
      (if_so (in_standby (here b p.0).control) (Ok tt) (Err ruling.Role) refl r.1).0 in
      controlled_good (call_of.Of p act_of.TakeControl) Active refl r.0 h.0 (standing_by h.1)

  pub standby_good : Fine b (call_of.Of p act_of.GoToStandby)
  standby_good ok = let r = known b p (active_refusal (is_active (here b p.0)) (sends_command p.0 b.standing)) ok
      in
      let a = if_so (is_active (here b p.0))
      (cond (sends_command p.0 b.standing) (Err ruling.Standing) (Ok tt)) (Err ruling.Role) refl r.1 in
      let f = (if_not (sends_command p.0 b.standing) (Ok tt) (Err ruling.Standing) refl a.1).0 in
      controlled_good (call_of.Of p act_of.GoToStandby) Standby refl r.0 (active_busy (here b p.0) a.0) f

  -- reset of a party that is not active
  reset_off : p.0 < b.count → is_active (here b p.0) ≡ false
      → Good b (call_of.Of p act_of.Reset) (settle (atn_of b) b p.0
      (with_standing b.standing
      (quiet (held_bytes (here b p.0)) (with_acceptor (reset_acceptor (lines b)) (wiped (here b p.0))))))
  reset_off l na = kept_good b (call_of.Of p act_of.Reset) I p.0 l (say ev.None 0 false (held_bytes (here b p.0)))
      new
      (record {
        name = refl;
        act = sym na;
        ctl = λ x. no (cc);
        strs = λ x. x;
        stst = λ x. x;
        no_anrs = λ s. away (stands_dav b I s);
        active = λ x. no (cc);
        others = λ t a. near t;
        listens = λ t x. rw t;
        joins = λ t x. no (cc);
        apart = λ x. no (cc);
        empty = λ t x. absurd (never.0 x);
        polled = λ _ x. absurd ((mute (atn_of b)).0 x);
        polls = λ _ x. absurd ((mute (atn_of b)).1 x);
      })
      (weak_look (here b) b.standing p.0 new
      (cond-elim (Weak (look b.standing p.0 (here b p.0))) (waits b.standing p.0 new.acceptor)
      (λ h. absurd (gone h))
      (λ _. weak_unaddressed (look b.standing p.0 (here b p.0)) (here b p.0).role.name))
      I.pre.heard)
      (record {
        not_put = refl;
        not_end = refl;
        acct = omega arith;
        caller = λ j x. no (cc);
        takes = λ h. no (cc);
        silent = λ x y. absurd (never.1 y);
        rejoin = λ h x. absurd (never.0 x);
        leaves = λ h x. inr (inr (inr refl));
      })
    where
      new : Party
      new = with_acceptor (reset_acceptor (lines b)) (wiped (here b p.0))

      -- a party reset while a byte stands is not in ANRS
      away : (lines b).dav ≡ true → reset_acceptor (lines b) ≡ Anrs → ⊥
      away h = cond-elim (λ (x : Acceptor). x ≡ Anrs → ⊥) (atn_of b) (λ _. joining_dav (lines b).dav h) (λ _ e. no (cc))

      near : atn_of b ≡ true → reset_acceptor (lines b) ≡ Aids → ⊥
      near t = cond-elim (λ (x : Acceptor). x ≡ Aids → ⊥) (atn_of b) (λ _. (joining_away (lines b).dav).2)
          (λ f e. no (cc))

      never : (reset_acceptor (lines b) ≡ Acrs → ⊥) × (reset_acceptor (lines b) ≡ Acds → ⊥)
      never = cond-elim (λ (x : Acceptor). (x ≡ Acrs → ⊥) × (x ≡ Acds → ⊥)) (atn_of b)
          (λ _. ((joining_away (lines b).dav).0, (joining_away (lines b).dav).1)) (λ _. (λ e. no (cc), λ e. no (cc)))

      -- a party with its flags off is no source, and not polled
      mute : (t : Bool) → ((not t && false && false) ≡ true → ⊥) × ((false || (not t && false)) ≡ true → ⊥)
      mute true = (λ e. no (cc), λ e. no (cc))
      mute false = (λ e. no (cc), λ e. no (cc))

      -- the reset party has nothing left to hear
      gone : waits b.standing p.0 new.acceptor ≡ true → ⊥
      gone h = split (is_command b.standing) (sent_by p.0 b.standing) (in_acrs new.acceptor)
          (λ c s. let z = I.pre.leads c p.0 s in no (cc)) (λ a. never.0 (is_acrs new.acceptor a)) h
        where
          split : (c s a : Bool) → (c ≡ true → s ≡ true → ⊥) → (a ≡ true → ⊥) → (c && (s || a)) ≡ true → ⊥
          split true true a f g e = f refl refl
          split true false a f g e = g e
          split false s a f g e = no (cc)

  pub reset_good : Fine b (call_of.Of p act_of.Reset)
  reset_good ok = let r = known b p (cond (sends_command p.0 b.standing) (Err ruling.Standing) (Ok tt)) ok in
      let f = (if_not (sends_command p.0 b.standing) (Ok tt) (Err ruling.Standing) refl r.1).0 in
      cond-elim (λ (o : Outcome). Good b (call_of.Of p act_of.Reset)
      (follow (atn_of b) b p.0 (with_standing b.standing o))) (is_active (here b p.0))
      (λ e. alarm_good b (call_of.Of p act_of.Reset) I (held_bytes (here b p.0)) (set b.parties p.0 new)
      (set_len b I p.0 new)
      (raw_set b I p.0 r.0 new (quietly (active_busy (here b p.0) e) f) refl (λ x. no (cc)) (λ x. no (cc))
      (λ x. no (cc)))
      (let k = set_held b I p.0 r.0 new in omega arith))
      (λ e. reset_off r.0 e)
    where
      new : Party
      new = wiped (here b p.0)

-- interface clear
cleared_held : (p : Party) → held_bytes (cleared p) + clear_drops p ≡ held_bytes p
cleared_held p = go (is_active p)
  where
    go : (x : Bool) → one (is_some (cond x None p.held)) + cond x (held_bytes p) 0 ≡ held_bytes p
    go true = omega arith
    go false = omega arith

module _ (b : Bus) (I : Inv b) (i : ℕ) (l : i < b.count) where
  chief : Party
  chief = change_control Active (cleared (here b i))

  all_cleared : List Party
  all_cleared = each b.count cleared b.parties

  cleared_len : length all_cleared ≡ 15
  unfolding all_cleared
  cleared_len = length_each b.count cleared b.parties ∙ I.size

  cleared_at : at all_cleared ≡ (λ j. cleared (here b j))
  unfolding all_cleared
  cleared_at = let z = I.size in let s = I.small in
      at_each_all b.count cleared b.parties refl (omega arith) I.pre.tail

  room : i < length all_cleared
  room = let z = cleared_len in let s = I.small in omega arith

  clear_raw : Raw b.count (at (set all_cleared i chief))
  unfolding chief
  clear_raw = subst (λ (w : ℕ → Party). Raw b.count w)
      (sym (at_set all_cleared i chief room ∙ ap (λ (w : ℕ → Party). upd w i chief) cleared_at)) (record {
        tail = upd_all v i chief (λ j x. b.count ≤ j → x ≡ idle) (λ h. absurd (bad h))
            (λ j ne h. ap cleared (I.pre.tail j h));
        charge = upd_unique v i chief (λ x. busy x.control) (λ x y e. no (cc)) (λ h j e. no (cc));
        addr = same_apart b.count (λ j. (here b j).role) (λ j. (upd v i chief j).role)
            (upd_all v i chief (λ j x. name_of x.role ≡ name_of (here b j).role) refl (λ j ne. refl)) I.pre.addr;
        talk = upd_unique v i chief (λ x. x.role.talk) (λ x y e. no (cc)) (λ h. no (cc));
        apart = upd_all v i chief (λ j x. Single x.role) (λ h. no (cc)) (λ j ne h. no (cc));
      })
    where
      v : ℕ → Party
      v j = cleared (here b j)

      bad : b.count ≤ i → ⊥
      bad h = omega arith

  clear_held : 0 + held b ≡ total b.count clear_drops b.parties + held_bytes (cleared (here b i))
      + total b.count held_bytes (set all_cleared i chief)
  unfolding chief all_cleared
  clear_held = let h = total_set b.count held_bytes all_cleared i chief l room in
      let k = total_split b.count held_bytes clear_drops cleared b.parties cleared_held in
      let e = ap (λ (w : ℕ → Party). held_bytes (w i)) cleared_at in omega arith

pub clear_good : (b : Bus) → Inv b → (p : Place)
    → Fine b (call_of.Of p act_of.InterfaceClear)
unfolding chief all_cleared
clear_good b I p ok = let r = known b p (cond (eqb p.0 b.system.0) (Ok tt) (Err ruling.Role)) ok in
    alarm_good b (call_of.Of p act_of.InterfaceClear) I
    (total b.count clear_drops b.parties + held_bytes (cleared (here b p.0)))
    (set (all_cleared b I p.0 r.0) p.0 (chief b I p.0 r.0))
    (length-set (all_cleared b I p.0 r.0) p.0 (chief b I p.0 r.0) ∙ cleared_len b I p.0 r.0)
    (clear_raw b I p.0 r.0) (clear_held b I p.0 r.0)

-- A call that says what it finds: it changes no party and nothing that stands, and settling follows.
report_good : (b : Bus) → Inv b → (c : Call) (s : Said) → deed s.event ≡ neither → s.dropped ≡ 0 → is_write c ≡ false
    → Becomes b c 0 s (here b 0)
report_good b I c s d k w = subst (λ (ps : List Party). Good b c (settle_bus (atn_of b) b s ps b.standing))
    (sym (set-get_or b.parties 0 idle)) (record {
      inv = settle_inv b (atn_of b) s b.parties b.standing I.size I.small refl I.pre;
      shape = shape (deserted t b.parties b.standing) refl;
      bytes = rw (w, host, k, total_each b.count held_bytes (settled t) b.parties (λ p. refl)) refl;
      takes = λ h. let z = taken in no (cc);
      silent = λ j e f. let z = acc j in no (cc);
      rejoin = λ h j e. sym (acc j) ∙ e;
      leaves = λ h j e. stayed (acc j ∙ e);
      ready = λ h. let z = put in no (cc);
      last = λ h. let z = end in no (cc);
    })
  where
    t : Bool
    t = atn_of b

    put : is_put s.event ≡ false
    put = rw (d, is_put) refl

    host : is_host_put s.event ≡ false
    host = rw (d, is_host_put) refl

    taken : is_take s.event ≡ false
    taken = rw (d, is_take) refl

    end : is_end s.event ≡ false
    end = rw (d, is_end) refl

    acc : (j : ℕ) → (at (each b.count (settled t) b.parties) j).acceptor ≡ (here b j).acceptor
    acc j = ap (λ (p : Party). p.acceptor) (seen_settled b t b.parties I.size I.small I.pre.tail j)

    shape : (x : Bool) → deserted t b.parties b.standing ≡ x
        → Shape b.standing c (settle_bus_as t x b s b.parties b.standing)
    shape false e = keeps put end refl refl
    shape true e = breaks put end refl (deserted_stands t b.parties b.standing e) refl

-- lines and drivers
pub lines_good : (b : Bus) → Inv b → Good b call_of.Lines (settle (atn_of b) b 0
    (with_standing b.standing (tell (view_at (place 0) (lines b) b))))
lines_good b I = report_good b I call_of.Lines (say ev.Lines (lines_byte (lines b)) false 0) refl refl refl

pub drivers_good : (b : Bus) → Inv b → Good b call_of.Drivers (settle (atn_of b) b 0
    (stay (view_at (place 0) (lines b) b)))
drivers_good b I = report_good b I call_of.Drivers (say ev.None 0 false 0) refl refl refl
