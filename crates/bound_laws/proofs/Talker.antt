-- The steps of a bus on which one talker sends: while its byte waits to be put, and while it stands.
-- Assumes nothing.
use mathlib.Core.Path.{◌≡◌, refl, sym, ap, ◌∙◌, subst}
use mathlib.Core.Bool.{Bool, true, false, cond}
use mathlib.Core.Logic.{◌⊎◌, inl, inr}
use Prim.Native.Nat.{ℕ, ◌+◌, ◌-◌, ◌≤◌, ◌<◌}
use native.Mathlib.Omega.{arith}
use lib.Dec.{eqb}
use borrow.Author.Tests.{eqb-true, eqb-false}
use Rattle.std.specs.Prelude.{Option, Some, None}
use Rattle.party.specs.Parts.{with_source, with_held}
use Rattle.party.specs.Driving.{is_active, drives_nrfd, drives_ndac}
use Rattle.offer.specs.Offer.{kind_of, byte}
use Rattle.party.specs.Sending.{is_source, is_polled, offer}
use Rattle.party.specs.Settling.{settled}
use Rattle.role.proofs.Logic.{no, test}
use Rattle.party.proofs.Settled.{settled_keeps}
use Rattle.parties.specs.Places.{place}
use Rattle.parties.proofs.Places.{some_seen, some_none, some_true}
use Rattle.effect.specs.Stands.{stands, sent}
use Rattle.effect.specs.Effects.{say, does, stay}
use Rattle.source_step.specs.SourceStep.{put, noacc, ended, source_step}
use Rattle.bus.specs.declared.Bus.{Bus}
use Rattle.bus.specs.declared.Answer.{Answer}
use Rattle.bus.specs.Record.{here, lines}
use Rattle.bus.specs.Settling.{settle, follow}
use Rattle.bus.specs.Machine as m
use Rattle.bus.specs.Delivery.{is_put, is_end}
use Rattle.bus.proofs.Invariant.{Inv, atn_of, quiet}
use Rattle.bus.proofs.Accepting.{stands_dav}
use Rattle.bus.proofs.Summary.{Shape, keeps, puts, ends, breaks}
use Rattle.bus.proofs.EachCall.{call_good}
use Rattle.bus.proofs.Reached.{one_source_lem}
use Rattle.bus.specs.Types.{Party, Source, Sids, Sgns, Sdys, Strs, Aids, Anrs, Data, Standing, Said, Call}
use Rattle.bus.specs.Types.ev
use Rattle.runner.specs.Runner.{step_of}
use Rattle.runner.proofs.Lists.{call_count}
use Rattle.turn_laws.proofs.Local.{local, touch_local, set_here, local_other, local_same, local_atn, source_step_lem}
use Rattle.turn_laws.proofs.Local.{Accepts, acts, atn_kept, standing_kept, other_kept, own_next, event_of}
use Rattle.turn_laws.proofs.Local.{broken_of, inv_kept}
use Rattle.bound_laws.proofs.Ranks.{rank, left, tick, tick_rank, tick_part, tick_acceptor, tick_input, tock_left}
use Rattle.bound_laws.proofs.Ranks.{tock_event, no_rank_no_nrfd, none_left_no_ndac, ready_holds_ndac, dav_off}

-- a source keeps its state when it settles
settled_sdys : (t : Bool) (q : Party) → is_source t q ≡ true → q.source ≡ Sdys → (settled t q).source ≡ Sdys
settled_sdys t q h e = rw (h, e) refl

-- a step of party i takes a turn from what it wants, and nothing from the others
pub record Lowers (f : Party → ℕ) (b c : Bus) (i : ℕ) : Type 0 where
  pub other : (j : ℕ) → (j ≡ i → ⊥) → f (here c j) ≡ f (here b j)
  pub own : f (here c i) ≤ f (here b i) - 1

-- a call after which nothing stands put nothing up
not_put_lem : (st : Option Standing) (c : Call) (a : Answer) → Shape st c a → a.bus.standing ≡ None
    → is_put a.event ≡ false
not_put_lem st c a (keeps p e k s) n = p
not_put_lem st c a (puts p e k z r d w s) n = no (cc)
not_put_lem st c a (ends p e k r d w z s) n = p
not_put_lem st c a (breaks p e k u s) n = p

-- Of n parties p talks, w listens, and p's byte is v, END e.
module _ (n p w v : ℕ) (e : Bool) where
  -- what stands once the byte is put
  abbrev pub its_byte : Option Standing
  its_byte = Some (sent (place p) Data v e)

  pub record Base (b : Bus) : Type 0 where
    pub inv : Inv b
    pub count : b.count ≡ n
    pub there : p < n
    pub quiet : atn_of b ≡ false
    pub talks : (here b p).role.talk ≡ true
    pub aids : (here b p).acceptor ≡ Aids

  -- the byte waits
  pub record Waits (b : Bus) : Type 0 where
    pub base : Base b
    pub none : b.standing ≡ None
    pub unpolled : (here b p).role.poll ≡ false
    pub held : (here b p).held ≡ Some (byte v e)
    pub source : ((here b p).source ≡ Sgns) ⊎ ((here b p).source ≡ Sdys)
    pub empty : (j : ℕ) → (here b j).input ≡ None
    pub part : (here b w).acceptor ≡ Aids → ⊥

  -- the byte stands
  pub record Sent (b : Bus) : Type 0 where
    pub base : Base b
    pub byte : b.standing ≡ its_byte
    pub source : (here b p).source ≡ Strs

  module _ (b : Bus) (B : Base b) where
    nobody : (j : ℕ) → is_active (here b j) ≡ false
    nobody j = test (is_active (here b j)) (λ h. let z = B.inv.pre.atn_if j h in let y = B.quiet in no (cc)) (λ h. h)

    own_source : is_source (atn_of b) (here b p) ≡ true
    own_source = rw (B.quiet, nobody p, B.talks) refl

    other_source : (i : ℕ) → (i ≡ p → ⊥) → is_source (atn_of b) (here b i) ≡ false
    other_source i ne = test (is_source (atn_of b) (here b i))
        (λ h. absurd (ne (one_source_lem b B.inv i p h own_source))) (λ h. h)

    accepts : (i : ℕ) → i < n → (i ≡ p → ⊥) → Accepts b i
    accepts i l ne = (rw B.count l, other_source i ne)

    pub in_sids_lem : (i : ℕ) → (i ≡ p → ⊥) → (here b i).source ≡ Sids
    in_sids_lem i ne = quiet b B.inv i (other_source i ne)

    inn : p < b.count
    inn = rw B.count B.there

    as_sends : m.call b (step_of p) ≡ follow (atn_of b) b p (source_step (m.view_at (place p) (lines b) b))
    as_sends = source_step_lem b B.inv p inn own_source

    -- a step of another party keeps the base
    base_other : (i : ℕ) → i < n → (i ≡ p → ⊥) → Base (m.call b (step_of i)).bus
    base_other i l ne = record {
      inv = inv_kept b B.inv i A;
      count = call_count b (step_of i) ∙ B.count;
      there = B.there;
      quiet = atn_kept b B.inv i A ∙ B.quiet;
      talks = ap (λ (x : Party). x.role.talk) talker ∙ B.talks;
      aids = ap (λ (x : Party). x.acceptor) talker ∙ B.aids;
    }
      where
        A : Accepts b i
        A = accepts i l ne

        talker : here (m.call b (step_of i)).bus p ≡ here b p
        talker = other_kept b B.inv i A p (λ h. ne (sym h))

    -- a step of the talker that changes it alone
    module _ (s : Said) (q : Party) (st : Option Standing) (eq : m.call b (step_of p) ≡ local b p s q st)
        (ec : is_active q ≡ is_active (here b p)) (et : q.role.talk ≡ (here b p).role.talk)
        (ea : q.acceptor ≡ (here b p).acceptor) where
      own_place : here (m.call b (step_of p)).bus p ≡ settled (atn_of b) q
      own_place = rw eq (local_same b B.inv p inn s q st)

      own_other : (j : ℕ) → (j ≡ p → ⊥) → here (m.call b (step_of p)).bus j ≡ here b j
      own_other j ne = rw eq (local_other b B.inv p inn s q st j ne)

      base_own : Base (m.call b (step_of p)).bus
      base_own = record {
        inv = (call_good b B.inv (step_of p)).inv;
        count = rw eq B.count;
        there = B.there;
        quiet = rw eq (local_atn b B.inv p inn s q st ec ∙ B.quiet);
        talks = ap (λ (x : Party). x.role.talk) own_place ∙ et ∙ B.talks;
        aids = ap (λ (x : Party). x.acceptor) own_place ∙ ea ∙ B.aids;
      }

  -- The byte waits. What a step then comes to: the byte is put; or it waits on, nothing is put, and the party wants a
  -- turn less.
  abbrev pub Put : Bus → ℕ → Type 0
  Put b i = (i ≡ p) × ((m.call b (step_of i)).event ≡ ev.Data) × ((m.call b (step_of i)).byte ≡ v)
      × ((m.call b (step_of i)).end ≡ e)

  pub record Waited (b : Bus) (i : ℕ) : Type 0 where
    pub waits : Waits (m.call b (step_of i)).bus
    pub lowers : Lowers rank b (m.call b (step_of i)).bus i
    pub quiet : is_put (m.call b (step_of i)).event ≡ false
    -- a talker that is held up is so by a party that wants a turn
    pub held_up : i ≡ p → ((j : ℕ) → rank (here b j) ≤ 0) → ⊥

  module _ (b : Bus) (O : Waits b) where
    B : Base b
    B = O.base

    abbrev P : Party
    P = here b p

    silent : (i : ℕ) → (m.call b (step_of i)).bus.standing ≡ None → is_put (m.call b (step_of i)).event ≡ false
    silent i = not_put_lem b.standing (step_of i) (m.call b (step_of i)) (call_good b B.inv (step_of i)).shape

    -- another party's step
    waits_other : (i : ℕ) → i < n → (i ≡ p → ⊥) → Waited b i
    waits_other i l ne = record {
      waits = record {
        base = Bc;
        none = still;
        unpolled = ap (λ (x : Party). x.role.poll) talker ∙ O.unpolled;
        held = ap (λ (x : Party). x.held) talker ∙ O.held;
        source = rw talker O.source;
        empty = λ j. test (eqb j i)
            (λ h. rw (eqb-true j i h) (ap (λ (x : Party). x.input) own ∙ tick_input (m.view_at (place i) (lines b) b)
            B.quiet (dav_off b B.inv O.none) (O.empty i) (here b i).acceptor))
            (λ h. ap (λ (x : Party). x.input) (other_kept b B.inv i A j (eqb-false j i h)) ∙ O.empty j);
        part = test (eqb w i)
            (λ h f. tick_part (here b i).acceptor
            (λ g. O.part (ap (λ (j : ℕ). (here b j).acceptor) (eqb-true w i h) ∙ g))
            (sym acc ∙ ap (λ (j : ℕ). (here c j).acceptor) (sym (eqb-true w i h)) ∙ f))
            (λ h f. O.part (sym (ap (λ (x : Party). x.acceptor) (other_kept b B.inv i A w (eqb-false w i h)))
            ∙ f));
      };
      lowers = record {
        other = λ j nj. ap rank (other_kept b B.inv i A j nj);
        own = rw (acc, in_sids_lem c Bc i ne, in_sids_lem b B i ne)
            (let z = tick_rank (here b i).acceptor in omega arith);
      };
      quiet = silent i still;
      held_up = λ h. absurd (ne h);
    }
      where
        A : Accepts b i
        A = accepts b B i l ne

        c : Bus
        c = (m.call b (step_of i)).bus

        Bc : Base c
        Bc = base_other b B i l ne

        still : c.standing ≡ None
        still = standing_kept b B.inv i A ∙ O.none

        talker : here c p ≡ here b p
        talker = other_kept b B.inv i A p (λ h. ne (sym h))

        own : here c i ≡ settled (atn_of b) (acts b i).party
        own = own_next b B.inv i A

        acc : (here c i).acceptor ≡ tick (here b i).acceptor
        acc = ap (λ (x : Party). x.acceptor) own
            ∙ tick_acceptor (m.view_at (place i) (lines b) b) B.quiet (dav_off b B.inv O.none) (O.empty i)
            (here b i).acceptor refl

    -- the talker's step, where it puts nothing up
    waits_own : (s : Said) (x : Source) → m.call b (step_of p) ≡ local b p s (with_source x P) b.standing
        → (settled (atn_of b) (with_source x P)).source ≡ Sdys
        → (((j : ℕ) → rank (here b j) ≤ 0) → ⊥) → Waited b p
    waits_own s x eq es up = record {
      waits = record {
        base = Bc;
        none = still;
        unpolled = ap (λ (y : Party). y.role.poll) own ∙ O.unpolled;
        held = ap (λ (y : Party). y.held) own ∙ O.held;
        source = inr src;
        empty = λ j. test (eqb j p)
            (λ h. rw (eqb-true j p h) (ap (λ (y : Party). y.input) own ∙ O.empty p))
            (λ h. ap (λ (y : Party). y.input) (rest j (eqb-false j p h)) ∙ O.empty j);
        part = test (eqb w p)
            (λ h. absurd (O.part (ap (λ (j : ℕ). (here b j).acceptor) (eqb-true w p h) ∙ B.aids)))
            (λ h f. O.part (sym (ap (λ (y : Party). y.acceptor) (rest w (eqb-false w p h))) ∙ f));
      };
      lowers = record {
        other = λ j nj. ap rank (rest j nj);
        own = rw (Bc.aids, src) (omega arith);
      };
      quiet = silent p still;
      held_up = λ _. up;
    }
      where
        q : Party
        q = with_source x P

        c : Bus
        c = (m.call b (step_of p)).bus

        Bc : Base c
        Bc = base_own b B s q b.standing eq refl refl refl

        still : c.standing ≡ None
        still = ap (λ (a : Answer). a.bus.standing) eq ∙ O.none

        own : here c p ≡ settled (atn_of b) q
        own = own_place b B s q b.standing eq refl refl refl

        rest : (j : ℕ) → (j ≡ p → ⊥) → here c j ≡ here b j
        rest = own_other b B s q b.standing eq refl refl refl

        src : (here c p).source ≡ Sdys
        src = ap (λ (y : Party). y.source) own ∙ es

    -- a step that changes the talker while nothing stands
    touched : (s : Said) (q : Party) → settle (atn_of b) b p (does s q b.standing) ≡ local b p s q b.standing
    touched s q = touch_local b B.inv p (inn b B) s q b.standing (rw O.none refl)

    offered : offer (is_polled (atn_of b) P) P ≡ Some (byte v e)
    offered = rw (B.quiet, B.talks, O.unpolled) O.held

    its_kind : kind_of (is_active P) (is_polled (atn_of b) P) ≡ Data
    its_kind = rw (nobody b B p, B.quiet, B.talks, O.unpolled) refl

    as_moved : P.source ≡ Sgns → m.call b (step_of p) ≡ local b p (say ev.Moved 0 false 0) (with_source Sdys P)
        b.standing
    as_moved h = as_sends b B ∙ rw (h, offered) (touched (say ev.Moved 0 false 0) (with_source Sdys P))

    as_ready : P.source ≡ Sdys → m.call b (step_of p) ≡ follow (atn_of b) b p
        (let w = m.view_at (place p) (lines b) b in
        cond (lines b).nrfd (stay w) (cond (lines b).ndac (put Data v e w) (noacc Data v e w)))
    as_ready h = as_sends b B ∙ rw (h, offered, its_kind) refl

    as_held_up : P.source ≡ Sdys → (lines b).nrfd ≡ true
        → m.call b (step_of p) ≡ local b p (say ev.None 0 false 0) P b.standing
    as_held_up h nr = as_ready h ∙ rw nr (touched (say ev.None 0 false 0) P)

    -- nobody holds NRFD: the listener is ready, and holds NDAC
    some_ndac : (lines b).nrfd ≡ false → (lines b).ndac ≡ true
    some_ndac nr = some_seen b.count drives_ndac b.parties refl B.inv.pre.tail w
        (ready_holds_ndac (here b w).acceptor
        (some_none b.count drives_nrfd b.parties refl B.inv.pre.tail nr w) O.part)

    abbrev up : Party
    up = with_source Strs (with_held None P)

    as_put : P.source ≡ Sdys → (lines b).nrfd ≡ false
        → m.call b (step_of p) ≡ local b p (say ev.Data v e 0) up its_byte
    as_put h nr = as_ready h ∙ rw (nr, some_ndac nr) (touch_local b B.inv p (inn b B) (say ev.Data v e 0) up its_byte
        (rw (set_here b B.inv p (inn b B) up, own_source b B) refl))

    waits_talker : (Put b p × Sent (m.call b (step_of p)).bus) ⊎ Waited b p
    waits_talker = go O.source
      where
        in_sgns : P.source ≡ Sgns → ((j : ℕ) → rank (here b j) ≤ 0) → ⊥
        in_sgns h z = let r : 0 + 1 ≤ 0 = rw (B.aids, h) at (z p) in omega arith

        by_nrfd : (lines b).nrfd ≡ true → ((j : ℕ) → rank (here b j) ≤ 0) → ⊥
        by_nrfd nr z = let r = some_true b.count drives_nrfd b.parties nr in let y = r.1 in
            let x = no_rank_no_nrfd (here b r.0).acceptor (let u = z r.0 in omega arith) in no (cc)

        ready : P.source ≡ Sdys → (x : Bool) → (lines b).nrfd ≡ x
            → (Put b p × Sent (m.call b (step_of p)).bus) ⊎ Waited b p
        ready h true nr = inr (waits_own (say ev.None 0 false 0) P.source (as_held_up h nr)
            (settled_sdys (atn_of b) P (own_source b B) h) (by_nrfd nr))
        ready h false nr = let q = as_put h nr in inl (
          (refl, ap (λ (a : Answer). a.event) q, ap (λ (a : Answer). a.byte) q, ap (λ (a : Answer). a.end) q),
          record {
            base = base_own b B (say ev.Data v e 0) up its_byte q refl refl refl;
            byte = ap (λ (a : Answer). a.bus.standing) q;
            source = ap (λ (y : Party). y.source) (own_place b B (say ev.Data v e 0) up its_byte q refl refl refl)
                ∙ settled_keeps (atn_of b) up refl (own_source b B);
          },
        )

        go : (P.source ≡ Sgns) ⊎ (P.source ≡ Sdys) → (Put b p × Sent (m.call b (step_of p)).bus) ⊎ Waited b p
        go (inl h) = inr (waits_own (say ev.Moved 0 false 0) Sdys (as_moved h)
            (settled_sdys (atn_of b) (with_source Sdys P) (own_source b B) refl) (in_sgns h))
        go (inr h) = ready h (lines b).nrfd refl

    -- any step while the byte waits
    pub waits_step : (i : ℕ) → i < n → (Put b i × Sent (m.call b (step_of i)).bus) ⊎ Waited b i
    waits_step i l = test (eqb i p)
        (λ h. subst (λ (j : ℕ). (Put b j × Sent (m.call b (step_of j)).bus) ⊎ Waited b j) (sym (eqb-true i p h))
        waits_talker)
        (λ h. inr (waits_other i l (eqb-false i p h)))

  -- The byte stands. What a step then comes to: it ends; or it stands on, is neither ended nor broken off, and the
  -- party wants a turn less.
  abbrev pub End : Bus → ℕ → Type 0
  End b i = (i ≡ p) × ((m.call b (step_of i)).event ≡ ev.Ended) × ((m.call b (step_of i)).byte ≡ v)
      × ((m.call b (step_of i)).end ≡ e)

  abbrev pub Keep : Bus → ℕ → Type 0
  Keep b i = (is_end (m.call b (step_of i)).event ≡ false) × ((m.call b (step_of i)).broken ≡ 0)

  pub record Stood (b : Bus) (i : ℕ) : Type 0 where
    pub keeps : Keep b i
    pub sent : Sent (m.call b (step_of i)).bus
    pub lowers : Lowers left b (m.call b (step_of i)).bus i
    pub held_up : i ≡ p → ((j : ℕ) → left (here b j) ≤ 0) → ⊥

  module _ (b : Bus) (S : Sent b) where
    BS : Base b
    BS = S.base

    up_here : stands b.standing ≡ true
    up_here = rw S.byte refl

    stands_other : (i : ℕ) → i < n → (i ≡ p → ⊥) → Stood b i
    stands_other i l ne = record {
      keeps = (
        ap is_end (event_of b BS.inv i A)
            ∙ tock_event (m.view_at (place i) (lines b) b) BS.quiet dav up_here (here b i).acceptor calm,
        broken_of b BS.inv i A,
      );
      sent = record {
        base = base_other b BS i l ne;
        byte = standing_kept b BS.inv i A ∙ S.byte;
        source = ap (λ (x : Party). x.source) (other_kept b BS.inv i A p (λ h. ne (sym h))) ∙ S.source;
      };
      lowers = record {
        other = λ j nj. ap left (other_kept b BS.inv i A j nj);
        own = rw (own_next b BS.inv i A) (tock_left (m.view_at (place i) (lines b) b) BS.quiet dav up_here
            (here b i).acceptor refl calm);
      };
      held_up = λ h. absurd (ne h);
    }
      where
        A : Accepts b i
        A = accepts b BS i l ne

        dav : (lines b).dav ≡ true
        dav = stands_dav b BS.inv up_here

        calm : (here b i).acceptor ≡ Anrs → ⊥
        calm = BS.inv.pre.no_anrs up_here i

    as_sent : m.call b (step_of p) ≡ follow (atn_of b) b p (cond (lines b).ndac (stay (m.view_at (place p) (lines b) b))
        (ended b.standing (m.view_at (place p) (lines b) b)))
    as_sent = as_sends b BS ∙ rw S.source refl

    as_standing : (lines b).ndac ≡ true → m.call b (step_of p) ≡ local b p (say ev.None 0 false 0) (here b p) b.standing
    as_standing nd = as_sent ∙ rw nd (touch_local b BS.inv p (inn b BS) (say ev.None 0 false 0) (here b p) b.standing
        (rw S.byte (rw (set_here b BS.inv p (inn b BS) (here b p), own_source b BS) refl)))

    as_ended : (lines b).ndac ≡ false → m.call b (step_of p) ≡ follow (atn_of b) b p (ended its_byte
        (m.view_at (place p) (lines b) b))
    as_ended nd = as_sent ∙ rw (nd, S.byte) refl

    stands_talker : (x : Bool) → (lines b).ndac ≡ x → End b p ⊎ Stood b p
    stands_talker true nd = inr (record {
      keeps = (ap (λ (a : Answer). is_end a.event) q, ap (λ (a : Answer). a.broken) q);
      sent = record {
        base = Bc;
        byte = ap (λ (a : Answer). a.bus.standing) q ∙ S.byte;
        source = ap (λ (y : Party). y.source) own ∙ settled_keeps (atn_of b) (here b p) S.source (own_source b BS);
      };
      lowers = record {
        other = λ j nj. ap left (own_other b BS (say ev.None 0 false 0) (here b p) b.standing q refl refl refl j nj);
        own = rw Bc.aids (omega arith);
      };
      held_up = λ _. by_ndac;
    })
      where
        q : m.call b (step_of p) ≡ local b p (say ev.None 0 false 0) (here b p) b.standing
        q = as_standing nd

        Bc : Base (m.call b (step_of p)).bus
        Bc = base_own b BS (say ev.None 0 false 0) (here b p) b.standing q refl refl refl

        own : here (m.call b (step_of p)).bus p ≡ settled (atn_of b) (here b p)
        own = own_place b BS (say ev.None 0 false 0) (here b p) b.standing q refl refl refl

        by_ndac : ((j : ℕ) → left (here b j) ≤ 0) → ⊥
        by_ndac z = let r = some_true b.count drives_ndac b.parties nd in let y = r.1 in
            let x = none_left_no_ndac (here b r.0).acceptor (z r.0) in no (cc)
    stands_talker false nd = let q = as_ended nd in
        inl (refl, ap (λ (a : Answer). a.event) q, ap (λ (a : Answer). a.byte) q, ap (λ (a : Answer). a.end) q)

    -- any step while the byte stands
    pub stands_step : (i : ℕ) → i < n → End b i ⊎ Stood b i
    stands_step i l = test (eqb i p)
        (λ h. subst (λ (j : ℕ). End b j ⊎ Stood b j) (sym (eqb-true i p h)) (stands_talker (lines b).ndac refl))
        (λ h. inr (stands_other i l (eqb-false i p h)))
