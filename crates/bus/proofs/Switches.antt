-- The switches of the host: listen-only and talk-only.
-- Assumes nothing.
use mathlib.Core.Path.{◌≡◌, refl, ap}
use mathlib.Core.Bool.{Bool, true, false, not, cond, ◌&&◌, ◌||◌}
use mathlib.Core.Logic.{◌⊎◌, inl, inr}
use Prim.Native.Nat.{ℕ, ◌<◌}
use lib.ListN.{set}
use lib.Dec.{ltb}
use lib.Seq.{get_or-set_other}
use borrow.Author.Tests.{ltb-true, ltb-false}
use Rattle.party.specs.Parts.{idle, with_role, with_acceptor}
use Rattle.role.specs.Roles.{with_flags}
use Rattle.party.specs.Driving.{is_active}
use Rattle.party.specs.Sending.{is_source, is_polled}
use Rattle.role.proofs.Logic.{no, test, cond-elim, cond-elim₂}
use Rattle.role.proofs.Roles.{Addressed, Weak, marked, unmarked, weak_flags, hear_weak, Single}
use Rattle.party.proofs.Settled.{source_case, source_of_active}
use Rattle.parties.specs.Places.{other_talker}
use Rattle.parties.proofs.Places.{upd, first_none}
use Rattle.bus.specs.Types.{Place, Party, Strs, Acceptor, Aids, Anrs, Acrs, Acds, Bus, Call}
use Rattle.bus.specs.Types.ruling
use Rattle.bus.specs.Types.ev
use Rattle.bus.specs.Types.call_of
use Rattle.bus.specs.Types.act_of
use Rattle.effect.specs.Calls.{is_accepted, is_on}
use Rattle.bus.specs.Record.{here, lines}
use Rattle.effect.specs.Stands.{stands}
use Rattle.effect.specs.Effects.{say}
use Rattle.host_calls.specs.HostCalls.{joining}
use Rattle.refusals.specs.Refusals.{of_switch, listen_refusal, talk_refusal}
use Rattle.bus.specs.Machine.{view_at}
use Rattle.bus.specs.Delivery.{wrote}
use Rattle.bus.proofs.Invariant.{is_command, code_of, waits, look, look_idle, same_heard, Inv, atn_of}
use Rattle.bus.proofs.Invariant as invariant
use Rattle.bus.proofs.Change.{upd_all, weak_look, upd_unique}
use Rattle.bus.proofs.Putting.{role_heard_lem, off_command}
use Rattle.bus.proofs.Accepting.{known, switched, off_is_0, stands_dav, joining_away, joining_dav}
use Rattle.bus.proofs.Summary.{Left, Fine, Becomes, kept_good}
use Rattle.bus.proofs.OneParty.{Caller, seated_good}
use Rattle.std.specs.Prelude.{Option, Some, None, Ok, Err, is_some}

-- a party that does not talk is not polled
unpolled : (t x : Bool) → (not t && false && x) ≡ true → ⊥
unpolled true x e = no (cc)
unpolled false x e = no (cc)

module _ (b : Bus) (I : Inv b) (p : Place) where
  -- the party with its flags switched
  abbrev flagged : Bool → Bool → Party
  flagged t o = with_role (with_flags t o (here b p.0).role) (here b p.0)

  -- talk or listen switched by the host: who is to hear what stands claims no more than before
  flag_heard : (t o : Bool) → (t ≡ true → (here b p.0).role.talk ≡ true)
      → Addressed (atn_of b) (λ j. look b.standing j (upd (here b) p.0 (flagged t o) j))
  flag_heard t o h = weak_look (here b) b.standing p.0 (flagged t o)
      (cond-elim₂ Weak (waits b.standing p.0 (here b p.0).acceptor)
      (λ _. hear_weak (code_of b.standing) t o (here b p.0).role h)
      (λ _. weak_flags t o (here b p.0).role h)) I.pre.heard

  -- with ATN false nobody is active
  inactive : atn_of b ≡ false → is_active (here b p.0) ≡ false
  inactive e = test (is_active (here b p.0)) (λ h. let z = I.pre.atn_if p.0 h in no (cc)) (λ h. h)

  -- a sender with ATN false talks
  talking : atn_of b ≡ false → (here b p.0).source ≡ Strs → (here b p.0).role.talk ≡ true
  talking e s = test (is_source (atn_of b) (here b p.0))
      (λ h. go (source_case (atn_of b) (here b p.0) h))
      (λ h. let z = invariant.quiet b I p.0 h in no (cc))
    where
      go : (is_active (here b p.0) ≡ true) ⊎ ((atn_of b ≡ false) × ((here b p.0).role.talk ≡ true))
          → (here b p.0).role.talk ≡ true
      go (inl h) = let z = inactive e in no (cc)
      go (inr h) = h.1

  -- A switch that leaves the acceptor says nothing, and moves nobody.
  flag_good : (c : Call) (t o : Bool) → p.0 < b.count → Caller c p.0 → wrote c (Ok tt) ≡ 0
      → Single (with_flags t o (here b p.0).role)
      → (atn_of b ≡ false → o ≡ false → (here b p.0).acceptor ≡ Aids)
      → (atn_of b ≡ false → o ≡ true → (here b p.0).acceptor ≡ Aids → ⊥)
      → ((here b p.0).source ≡ Strs → is_polled (atn_of b) (flagged t o) ≡ true
      → is_polled (atn_of b) (here b p.0) ≡ true)
      → ((here b p.0).source ≡ Strs → is_source (atn_of b) (flagged t o) ≡ true
      → (is_source (atn_of b) (here b p.0) ≡ true)
      × (is_polled (atn_of b) (here b p.0) ≡ true → is_polled (atn_of b) (flagged t o) ≡ true))
      → Addressed (atn_of b) (λ j. look b.standing j (upd (here b) p.0 (flagged t o) j))
      → Becomes b c p.0 (say ev.None 0 false 0) (flagged t o)
  flag_good c t o l k w s ls js pd ps h = kept_good b c I p.0 l (say ev.None 0 false 0) (flagged t o)
      (record {
        name = refl;
        act = refl;
        ctl = λ x. x;
        strs = λ x. x;
        stst = λ x. x;
        no_anrs = λ s. I.pre.no_anrs s p.0;
        active = I.pre.active p.0;
        others = λ t. I.pre.others t p.0 l;
        listens = ls;
        joins = js;
        apart = s;
        empty = λ t. I.pre.empty t p.0;
        polled = pd;
        polls = ps;
      })
      h
      (record {
        not_put = refl;
        not_end = refl;
        acct = rw w refl;
        caller = k;
        takes = λ h. no (cc);
        silent = λ x y. no (cc);
        rejoin = λ h x. x;
        leaves = λ h x. inl x;
      })

  module _ (l : p.0 < b.count) (on : ℕ) (nt : is_on on ≡ true → (here b p.0).role.talk ≡ false) where
    abbrev c : Call
    c = call_of.Of p (act_of.ListenOnly on)

    -- listen switched, the acceptor as it was: under ATN, or where listen was on already
    listen_flag : (atn_of b ≡ false → is_on on ≡ false → ⊥) → (atn_of b ≡ false → (here b p.0).role.listen ≡ true)
        → Becomes b c p.0 (say ev.None 0 false 0) (flagged (here b p.0).role.talk (is_on on))
    listen_flag no-off was = flag_good c (here b p.0).role.talk (is_on on) l (λ j x. no (cc)) refl
        (λ x y. let z = nt y in no (cc)) (λ t x. absurd (no-off t x)) (λ t x. I.pre.joins t p.0 (was t)) (λ _ x. x)
        (λ _ x. (x, λ y. y)) (flag_heard (here b p.0).role.talk (is_on on) (λ x. x))

    -- with ATN false the acceptor goes to x, which is neither ready nor has taken
    listen_seat : (x : Acceptor) → atn_of b ≡ false
        → (stands b.standing ≡ true → x ≡ Anrs → ⊥) → (x ≡ Acrs → ⊥) → (x ≡ Acds → ⊥)
        → (is_on on ≡ false → x ≡ Aids) → (is_on on ≡ true → x ≡ Aids → ⊥)
        → ((here b p.0).acceptor ≡ Acrs → Left c p.0)
        → Becomes b c p.0 (say ev.None 0 false 0)
        (with_role (with_flags (here b p.0).role.talk (is_on on) (here b p.0).role) (with_acceptor x (here b p.0)))
    listen_seat x e an ac ad off up lv = seated_good b c I p.0 l (say ev.None 0 false 0)
        (with_role (with_flags (here b p.0).role.talk (is_on on) (here b p.0).role) (with_acceptor x (here b p.0)))
        (record {
          inactive = inactive e;
          name = refl;
          control = refl;
          source = refl;
          no_anrs = an;
          others = λ t. no (cc);
          listens = λ t. off;
          joins = λ t. up;
          apart = λ y z. let w = nt z in no (cc);
          empty = λ t y. absurd (ac y);
          polled = λ _ y. y;
          polls = λ _ y. (y, λ z. z);
          claims = let k = off_command b.count (atn_of b) (here b) b.standing I.pre e in
              rw k (weak_flags (here b p.0).role.talk (is_on on) (here b p.0).role (λ y. y));
        })
        (record {
          not_put = refl;
          not_end = refl;
          acct = refl;
          caller = λ j y. no (cc);
          takes = λ h. no (cc);
          silent = λ y z. absurd (ad z);
          rejoin = λ h y. absurd (ac y);
          leaves = λ h y. inr (inr (lv y));
        })

  pub listen_good : (on : ℕ) → Fine b (call_of.Of p (act_of.ListenOnly on))
  listen_good on ok = cond-elim G (atn_of b)
      (λ t. listen_flag l on nt (λ f. no (cc)) (λ f. no (cc)))
      (λ t. cond-elim G (is_on on)
      (λ o. cond-elim G (here b p.0).role.listen
      (λ w. listen_flag l on nt (λ _ f. no (cc)) (λ _. w))
      (λ w. listen_seat l on nt (joining (lines b).dav) t (λ s. joining_dav (lines b).dav (stands_dav b I s))
      (joining_away (lines b).dav).0 (joining_away (lines b).dav).1 (λ f. no (cc))
      (λ _. (joining_away (lines b).dav).2) (λ a. let z = I.pre.listens t p.0 w in no (cc))))
      (λ o. listen_seat l on nt Aids t (λ s x. no (cc)) (λ x. no (cc)) (λ x. no (cc)) (λ _. refl) (λ f. no (cc))
      (λ _. inl (rw (off_is_0 on sw.0 o)))))
    where
      G : Acceptor → Type 0
      G x = Becomes b (call_of.Of p (act_of.ListenOnly on)) p.0 (say ev.None 0 false 0)
          (with_role (with_flags (here b p.0).role.talk (is_on on) (here b p.0).role) (with_acceptor x (here b p.0)))

      kn : (p.0 < b.count) × (is_accepted (of_switch on (listen_refusal (is_on on) (here b p.0).role.talk)) ≡ true)
      kn = known b p (of_switch on (listen_refusal (is_on on) (here b p.0).role.talk)) ok

      l : p.0 < b.count
      l = kn.0

      sw : (ltb 1 on ≡ false) × (is_accepted (listen_refusal (is_on on) (here b p.0).role.talk) ≡ true)
      sw = switched on (listen_refusal (is_on on) (here b p.0).role.talk) kn.1

      nt : is_on on ≡ true → (here b p.0).role.talk ≡ false
      nt o = go (is_on on) (here b p.0).role.talk o sw.1
        where
          go : (x y : Bool) → x ≡ true → is_accepted (listen_refusal x y) ≡ true → y ≡ false
          go true false e f = refl
          go x y e f = no (cc)

  talk_on : (c : Call) → p.0 < b.count → Caller c p.0 → wrote c (Ok tt) ≡ 0
      → (here b p.0).role.listen ≡ false → atn_of b ≡ false
      → is_some (other_talker b.count p.0 b.parties) ≡ false
      → Becomes b c p.0 (say ev.None 0 false 0) (flagged true (here b p.0).role.listen)
  talk_on c l k w nl e f = flag_good c true (here b p.0).role.listen l k w (λ x y. no (cc))
      (λ t. I.pre.listens t p.0)
      (λ t. I.pre.joins t p.0)
      (λ s x. rw (talking e s) x)
      (λ s x. let z = talking e s in (rw z x, λ y. rw z at y))
      (same_heard (λ j. look b.standing j (upd (here b) p.0 new j)) (λ j. (upd (here b) p.0 new j).role)
      (λ j. look_idle b.standing off j (upd (here b) p.0 new j))
      (unmarked (λ j. (upd (here b) p.0 new j).role) unique nobody_waits))
    where
      new : Party
      new = flagged true (here b p.0).role.listen

      off : is_command b.standing ≡ false
      off = off_command b.count (atn_of b) (here b) b.standing I.pre e

      roles : Addressed (atn_of b) (λ j. (here b j).role)
      roles = role_heard_lem b.count (atn_of b) (here b) b.standing I.pre off

      nowhere : (x : Option Place) → is_some x ≡ false → x ≡ None
      nowhere None h = refl
      nowhere (Some q) h = no (cc)

      solo : (j : ℕ) → (j ≡ p.0 → ⊥) → (here b j).role.talk ≡ true → ◌≡◌ {A = ℕ} 0 1
      solo j ne h = test (ltb j b.count)
          (λ m. let z = first_none 0 b.count (λ q. q.role.talk) (set b.parties p.0 idle) refl
          (nowhere (other_talker b.count p.0 b.parties) f) j (ltb-true j b.count m) in
          let y = get_or-set_other b.parties p.0 j idle idle ne in cc)
          (λ m. let z = ap (λ (q : Party). q.role.talk) (I.pre.tail j (ltb-false j b.count m)) in no (cc))

      -- with ATN false nobody waits for a secondary
      nobody_waits : (j : ℕ) → marked (upd (here b) p.0 new j).role ≡ false
      nobody_waits = upd_all (here b) p.0 new (λ j x. marked x.role ≡ false) (roles.off e p.0)
          (λ j ne. roles.off e j)

      unique : (i j : ℕ) → (upd (here b) p.0 new i).role.talk ≡ true → (upd (here b) p.0 new j).role.talk ≡ true
          → i ≡ j
      unique = upd_unique (here b) p.0 new (λ x. x.role.talk) roles.one (λ h j g ne. no (solo j ne g))

  talk_off : (c : Call) → p.0 < b.count → Caller c p.0 → wrote c (Ok tt) ≡ 0
      → Becomes b c p.0 (say ev.None 0 false 0) (flagged false (here b p.0).role.listen)
  talk_off c l k w = flag_good c false (here b p.0).role.listen l k w (λ x. no (cc))
      (λ t. I.pre.listens t p.0)
      (λ t. I.pre.joins t p.0)
      (λ s x. absurd (unpolled (atn_of b) (here b p.0).role.poll x))
      (λ s x. let a = active x in (
        source_of_active (atn_of b) (here b p.0) a,
        λ y. absurd (under (I.pre.atn_if p.0 a) y),
      ))
      (flag_heard false (here b p.0).role.listen (λ x. no (cc)))
    where
      -- a source that does not talk is active
      active : (is_active (here b p.0) || (not (atn_of b) && false)) ≡ true → is_active (here b p.0) ≡ true
      active = go (is_active (here b p.0)) (atn_of b)
        where
          go : (x t : Bool) → (x || (not t && false)) ≡ true → x ≡ true
          go true t e = refl
          go false true e = no (cc)
          go false false e = no (cc)

      under : atn_of b ≡ true → is_polled (atn_of b) (here b p.0) ≡ true → ⊥
      under t e = let z : is_polled (atn_of b) (here b p.0) ≡ false = rw t in no (cc)

  pub talk_good : (on : ℕ) → Fine b (call_of.Of p (act_of.TalkOnly on))
  talk_good on ok = go (is_on on) refl
    where
      c : Call
      c = call_of.Of p (act_of.TalkOnly on)

      listen : Bool
      listen = (here b p.0).role.listen

      another : Bool
      another = is_some (other_talker b.count p.0 b.parties)

      kn : (p.0 < b.count) × (is_accepted (of_switch on (talk_refusal (is_on on) (view_at p (lines b) b))) ≡ true)
      kn = known b p (of_switch on (talk_refusal (is_on on) (view_at p (lines b) b))) ok

      sw : (ltb 1 on ≡ false) × (is_accepted (talk_refusal (is_on on) (view_at p (lines b) b)) ≡ true)
      sw = switched on (talk_refusal (is_on on) (view_at p (lines b) b)) kn.1

      -- the tests that talk-only on passes
      passed : (x l t a : Bool) → x ≡ true
          → is_accepted (cond x
          (cond l (Err ruling.Role) (cond t (Err ruling.Attention) (cond a (Err ruling.Talker) (Ok tt))))
          (Ok tt)) ≡ true
          → (l ≡ false) × (t ≡ false) × (a ≡ false)
      passed true false false false e f = (refl, refl, refl)
      passed x l t a e f = no (cc)

      go : (x : Bool) → is_on on ≡ x → Becomes b c p.0 (say ev.None 0 false 0)
          (flagged x (here b p.0).role.listen)
      go true o = let h = passed (is_on on) listen (atn_of b) another o sw.1 in
          talk_on c kn.0 (λ j x. no (cc)) refl h.0 h.1 h.2
      go false o = talk_off c kn.0 (λ j x. no (cc)) refl
