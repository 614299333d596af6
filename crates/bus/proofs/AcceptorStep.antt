-- The acceptor step: a move of the acceptor, a taking as data, a command heard.
-- Assumes nothing.
use mathlib.Core.Path.{◌≡◌, refl, sym, ap, ◌∙◌}
use mathlib.Core.Bool.{Bool, true, false, not, ◌||◌}
use mathlib.Core.Logic.{inl, inr}
use Prim.Native.Nat.{ℕ, ◌<◌}
use Rattle.message.specs.Meaning.{meaning_of}
use Rattle.party.specs.Parts.{with_acceptor}
use Rattle.party.specs.Driving.{is_active}
use Rattle.role.specs.Roles.{role_heard, hear_event}
use Rattle.party.specs.Sending.{is_source}
use Rattle.role.proofs.Logic.{no, test, cond-elim, or_right}
use Rattle.role.proofs.Roles.{weak_same, hear_single, hear_name, hear_events}
use Rattle.party.proofs.Settled.{source_of_active}
use Rattle.bus.specs.Types.{Place, Party, Strs, Acceptor, Aids, Anrs, Acrs, Acds, Awns, Kind, Event, Standing}
use Rattle.bus.specs.Types.{Bus, Effect, View}
use Rattle.bus.specs.Types.ev
use Rattle.bus.specs.Types.call_of
use Rattle.bus.specs.Types.act_of
use Rattle.bus.specs.Record.{here, lines}
use Rattle.effect.specs.Stands.{stands}
use Rattle.effect.specs.Effects.{say, stay, moved}
use Rattle.acceptor_step.specs.AcceptorStep.{fills, hears, takes, acceptor_in}
use Rattle.bus.specs.Settling.{follow}
use Rattle.bus.specs.Machine.{view_at}
use Rattle.bus.specs.Delivery.{is_put, is_end, is_take, is_host_put}
use Rattle.bus.proofs.Invariant.{sent_by, is_command, code_of, waits, look, Inv, atn_of, quiet}
use Rattle.bus.proofs.Change.{weak_look}
use Rattle.bus.proofs.Putting.{off_command, look_on, look_off}
use Rattle.bus.proofs.Accepting.{stands_dav}
use Rattle.bus.proofs.Summary.{Good, kept_good}
use Rattle.bus.proofs.OneParty.{step_caller, stay_good, seated_good}
use Rattle.std.specs.Prelude.{Option, Some, None, is_some}
use Rattle.effect.specs.Stands.{sent}

-- what heard, clear and trigger are
record TakeEvent (x : Event) : Type 0 where
  not_put : is_put x ≡ false
  not_end : is_end x ≡ false
  take : is_take x ≡ true
  not_host : is_host_put x ≡ false
  not_took : x ≡ ev.Took → ⊥

hear_event_lem : (v : ℕ) (listen : Bool) → TakeEvent (hear_event (meaning_of v) listen)
hear_event_lem v l = hear_events TakeEvent
    (record { not_put = refl; not_end = refl; take = refl; not_host = refl; not_took = λ e. no (cc) })
    (record { not_put = refl; not_end = refl; take = refl; not_host = refl; not_took = λ e. no (cc) })
    (record { not_put = refl; not_end = refl; take = refl; not_host = refl; not_took = λ e. no (cc) })
    (meaning_of v) l

module _ (b : Bus) (I : Inv b) (p : Place) (l : p.0 < b.count) (ns : is_source (atn_of b) (here b p.0) ≡ false) where
  -- what an effect of this step comes to
  G : Effect → Type 0
  G e = Good b (call_of.Of p act_of.Step) (follow (atn_of b) b p.0 e)

  -- what the party sees
  abbrev seen : View
  seen = view_at p (lines b) b

  not_active : is_active (here b p.0) ≡ false
  not_active = test (is_active (here b p.0)) (λ h. let z = source_of_active (atn_of b) (here b p.0) h in no (cc))
      (λ h. h)

  not_sending : (here b p.0).source ≡ Strs → ⊥
  not_sending e = let z = quiet b I p.0 ns in no (cc)

  not_mine : is_command b.standing ≡ true → sent_by p.0 b.standing ≡ false
  not_mine c = test (sent_by p.0 b.standing) (λ h. absurd (not_sending (I.pre.sent p.0 h))) (λ h. h)

  stays : G (stay seen)
  unfolding G
  stays = stay_good b I p l

  hear_good : (s : Place) (k : Kind) (v : ℕ) (e : Bool) → (here b p.0).acceptor ≡ Acrs
      → b.standing ≡ Some (sent s k v e)
      → atn_of b ≡ true
      → G (hears v e seen)
  unfolding G
  hear_good s k v e ea es t = kept_good b (call_of.Of p act_of.Step) I p.0 l (hears v e seen).said new
      (record {
        name = hear_name (meaning_of v) q.role;
        act = refl;
        ctl = λ x. x;
        strs = λ x. x;
        stst = λ x. x;
        no_anrs = λ _ x. no (cc);
        active = λ x. let z = not_active in no (cc);
        others = λ _ _ x. no (cc);
        listens = λ x. no (cc);
        joins = λ x. no (cc);
        apart = hear_single (meaning_of v) q.role (I.pre.apart p.0);
        empty = λ x. no (cc);
        polled = λ x. absurd (not_sending x);
        polls = λ x. absurd (not_sending x);
      })
      (weak_look (here b) b.standing p.0 new
      (weak_same (look b.standing p.0 q) (look b.standing p.0 new) (later ∙ sym before))
      I.pre.heard)
      (record {
        not_put = E.not_put;
        not_end = E.not_end;
        acct = rw E.not_host refl;
        caller = step_caller b I p l;
        takes = λ _. (ea, refl, (s, k, es), λ x. absurd (E.not_took x));
        silent = λ _ _. (refl, E.take);
        rejoin = λ _ x. no (cc);
        leaves = λ _ x. inr (inl (refl, E.take));
      })
    where
      q : Party
      q = here b p.0

      new : Party
      new = (hears v e seen).party

      E : TakeEvent (hear_event (meaning_of v) q.role.listen)
      E = hear_event_lem v q.role.listen

      cmd : is_command b.standing ≡ true
      cmd = I.pre.kind (rw es) ∙ t

      -- what was waited for has come
      before : look b.standing p.0 q ≡ role_heard (meaning_of v) q.role
      before = look_on b.standing p.0 q (rw (cmd, ea) (or_right (sent_by p.0 b.standing) refl))
          ∙ ap (λ (st : Option Standing). role_heard (code_of st) q.role) es

      later : look b.standing p.0 new ≡ role_heard (meaning_of v) q.role
      later = look_off b.standing p.0 new (rw (cmd, not_mine cmd))

  took_good : (s : Place) (k : Kind) (v : ℕ) (e : Bool) → (here b p.0).acceptor ≡ Acrs
      → b.standing ≡ Some (sent s k v e)
      → atn_of b ≡ false
      → G (fills v e seen)
  unfolding G
  took_good s k v e ea es t = seated_good b (call_of.Of p act_of.Step) I p.0 l (fills v e seen).said
      (fills v e seen).party
      (record {
        inactive = not_active;
        name = refl;
        control = refl;
        source = refl;
        no_anrs = λ _ x. no (cc);
        others = λ _ x. no (cc);
        listens = λ _ x. let z = I.pre.listens t p.0 x in no (cc);
        joins = λ _ x y. no (cc);
        apart = I.pre.apart p.0;
        empty = λ _ x. no (cc);
        polled = λ x. absurd (not_sending x);
        polls = λ x. absurd (not_sending x);
        claims = let c = off_command b.count (atn_of b) (here b) b.standing I.pre t in
            rw c (weak_same (here b p.0).role (here b p.0).role refl);
      })
      (record {
        not_put = refl;
        not_end = refl;
        acct = refl;
        caller = step_caller b I p l;
        takes = λ _. (ea, refl, (s, k, es), λ _. refl);
        silent = λ _ _. (refl, refl);
        rejoin = λ _ x. no (cc);
        leaves = λ _ x. inr (inl (refl, refl));
      })

  -- a move of the acceptor that is no taking
  shift_good : (x : Acceptor) → (stands b.standing ≡ true → x ≡ Anrs → ⊥) → (x ≡ Aids → ⊥)
      → ((here b p.0).acceptor ≡ Aids → ⊥)
      → waits b.standing p.0 x ≡ waits b.standing p.0 (here b p.0).acceptor
      → (stands b.standing ≡ true → x ≡ Acrs → ⊥)
      → (atn_of b ≡ false → x ≡ Acrs → is_some (here b p.0).input ≡ false) → ((here b p.0).acceptor ≡ Acrs → ⊥)
      → G (moved seen (with_acceptor x (here b p.0)))
  unfolding G
  shift_good x an ai pa c ac em pc = seated_good b (call_of.Of p act_of.Step) I p.0 l (say ev.Moved 0 false 0)
      (with_acceptor x (here b p.0))
      (record {
        inactive = not_active;
        name = refl;
        control = refl;
        source = refl;
        no_anrs = an;
        others = λ _. ai;
        listens = λ t e. absurd (pa (I.pre.listens t p.0 e));
        joins = λ t e. ai;
        apart = I.pre.apart p.0;
        empty = em;
        polled = λ y. absurd (not_sending y);
        polls = λ y. absurd (not_sending y);
        claims = weak_same (look b.standing p.0 (here b p.0))
            (look b.standing p.0 (with_acceptor x (here b p.0))) (rw c);
      })
      (record {
        not_put = refl;
        not_end = refl;
        acct = refl;
        caller = step_caller b I p l;
        takes = λ h. no (cc);
        silent = λ e _. absurd (pc e);
        rejoin = λ s e. absurd (ac s e);
        leaves = λ s e. absurd (pc e);
      })

  nobody : (st : Option Standing) (x y : Acceptor) → stands st ≡ false → waits st p.0 x ≡ waits st p.0 y
  nobody None x z e = refl
  nobody (Some st) x z e = no (cc)

  -- with DAV false nothing stands
  none_stands : (lines b).dav ≡ false → stands b.standing ≡ false
  none_stands d = test (stands b.standing) (λ h. let z = stands_dav b I h in no (cc)) (λ h. h)

  -- while the own acceptor is in ANRS nothing stands
  anrs_none : (here b p.0).acceptor ≡ Anrs → stands b.standing ≡ false
  anrs_none ea = test (stands b.standing) (λ h. absurd (I.pre.no_anrs h p.0 ea)) (λ h. h)

  -- with room in data-in, or under ATN
  room : (t f : Bool) → t ≡ false → (t || not f) ≡ true → f ≡ false
  room false false e h = refl
  room t f e h = no (cc)

  takes_good : (here b p.0).acceptor ≡ Acrs → (st : Option Standing) → b.standing ≡ st → G (takes st seen)
  takes_good ea None es = stays
  takes_good ea (Some st) es = cond-elim G (atn_of b) (hear_good st.sender st.kind st.value st.end ea es)
      (took_good st.sender st.kind st.value st.end ea es)

  by_state : (x : Acceptor) → (here b p.0).acceptor ≡ x → G (acceptor_in x seen)
  by_state Aids ea = stays
  by_state Anrs ea = cond-elim G (atn_of b || not (is_some (here b p.0).input))
      (λ h. shift_good _ (λ _ e. no (cc)) (λ e. no (cc)) (λ e. no (cc))
      (nobody b.standing Acrs (here b p.0).acceptor (anrs_none ea)) (λ s e. I.pre.no_anrs s p.0 ea)
      (λ t _. room (atn_of b) (is_some (here b p.0).input) t h) (λ e. no (cc)))
      (λ _. stays)
  by_state Acrs ea = cond-elim G (lines b).dav (λ _. takes_good ea b.standing refl) (λ _. stays)
  by_state Acds ea = shift_good _ (λ _ e. no (cc)) (λ e. no (cc)) (λ e. no (cc)) (rw ea) (λ s e. no (cc))
      (λ t e. no (cc)) (λ e. no (cc))
  by_state Awns ea = cond-elim G (lines b).dav (λ _. stays)
      (λ d. shift_good _ (λ s e. let z = none_stands d in no (cc)) (λ e. no (cc)) (λ e. no (cc))
      (nobody b.standing Anrs (here b p.0).acceptor (none_stands d)) (λ s e. no (cc)) (λ t e. no (cc))
      (λ e. no (cc)))

  pub accept_good : (x : Acceptor) → (here b p.0).acceptor ≡ x
      → Good b (call_of.Of p act_of.Step) (follow (atn_of b) b p.0 (acceptor_in x seen))
  unfolding G
  accept_good x ea = by_state x ea
