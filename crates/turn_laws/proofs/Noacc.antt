-- A byte with nobody to take it is kept.
-- Assumes nothing.
use mathlib.Core.Path.{◌≡◌, refl, sym, ap, ◌∙◌, subst}
use mathlib.Core.Bool.{Bool, true, false, not, ◌||◌}
use mathlib.Core.List.{List, [], ◌∷◌}
use Prim.Native.Nat.{ℕ, ◌<◌}
use lib.Dec.{ltb}
use lib.Seq.{set-get_or}
use borrow.Author.Tests.{ltb-true}
use Rattle.std.specs.Prelude.{Option, Some, None, is_some}
use Rattle.message.specs.Meaning.{meaning_of}
use Rattle.offer.specs.Offer.{kind_of, end_of}
use Rattle.role.proofs.Logic.{no, test, cond-elim}
use Rattle.role.proofs.Roles.{hear_events}
use Rattle.party.specs.Parts.{idle}
use Rattle.party.specs.Driving.{is_active, nrfd_at, ndac_at, drives_nrfd, drives_ndac}
use Rattle.party.specs.Sending.{is_source, is_polled, offer}
use Rattle.parties.specs.Places.{place}
use Rattle.parties.proofs.Places.{some_none}
use Rattle.effect.specs.Effects.{say}
use Rattle.source_step.specs.SourceStep.{put, noacc, ready, ended, source_in}
use Rattle.acceptor_step.specs.AcceptorStep.{takes, acceptor_in}
use Rattle.bus.specs.Record.{here, lines}
use Rattle.bus.specs.Settling.{answered, follow}
use Rattle.bus.specs.Machine as m
use Rattle.bus.proofs.Invariant.{Inv, atn_of, quiet}
use Rattle.bus.proofs.Putting.{nothing_stands}
use Rattle.bus.proofs.Reached.{one_source_lem}
use Rattle.bus.specs.declared.Bus.{Bus}
use Rattle.bus.specs.declared.Answer.{Answer}
use Rattle.bus.specs.Types.{Party, Source, Sids, Sgns, Sdys, Strs, Acceptor, Aids, Anrs, Acrs, Awns}
use Rattle.bus.specs.Types.{Byte, Kind, Command, Event, Standing, Said, After, Effect, View}
use Rattle.bus.specs.Types.ev
use Rattle.bus.specs.Types.after
use Rattle.runner.specs.Runner.{step_of, steps}
use Rattle.runner.proofs.Led.{led_inv}
use Rattle.turn_laws.specs.Turns.{Alone, kept, Keeps, KeepsByte}
use Rattle.turn_laws.proofs.Local.{local, touch_local, no_step, source_step_lem, as_local, event_of}

-- who drives neither NRFD nor NDAC takes no part
in_aids : (a : Acceptor) → nrfd_at a ≡ false → ndac_at a ≡ false → a ≡ Aids
in_aids Aids r d = refl
in_aids a r d = no (cc)

-- an acceptor step says something else
abbrev Else : Effect → Type 0
Else x = x.said.event ≡ ev.Noacc → ⊥

module _ (v : View) where
  takes_else : (st : Option Standing) → Else (takes st v)
  takes_else None = λ h. no (cc)
  takes_else (Some st) = cond-elim Else v.lines.atn
      (λ _. hear_events (λ (y : Event). y ≡ ev.Noacc → ⊥) (λ h. no (cc)) (λ h. no (cc)) (λ h. no (cc))
      (meaning_of st.value) v.party.role.listen)
      (λ _ h. no (cc))

  acceptor_else : (a : Acceptor) → Else (acceptor_in a v)
  acceptor_else Anrs = cond-elim Else (v.lines.atn || not (is_some v.party.input)) (λ _ h. no (cc))
      (λ _ h. no (cc))
  acceptor_else Acrs = cond-elim Else v.lines.dav (λ _. takes_else v.standing) (λ _ h. no (cc))
  acceptor_else Awns = cond-elim Else v.lines.dav (λ _ h. no (cc)) (λ _ h. no (cc))
  acceptor_else a = λ h. no (cc)

module _ (b : Bus) (I : Inv b) where
  -- a step that leaves its party as it was leaves the bus
  same : (i : ℕ) (s : Said) → local b i s (here b i) b.standing ≡ answered false s b
  same i s = rw (I.still i, set-get_or b.parties i idle) refl

  module _ (p v : ℕ) (e : Bool) (A : Alone b p v e) where
    kind : Kind
    kind = kind_of (is_active (here b p)) (is_polled (atn_of b) (here b p))

    none : b.standing ≡ None
    none = nothing_stands b.count (atn_of b) (here b) b.standing I.pre (quiet b I) p A.source
        (λ h. let z = A.ready in no (cc))

    as_noacc : m.call b (step_of p) ≡ follow (atn_of b) b p (noacc kind v e (m.view_at (place p) (lines b) b))
    unfolding kind
    as_noacc = source_step_lem b I p A.there A.source ∙ rw (A.ready, A.offers, A.quiet, A.nobody) refl

    pub says : m.call b (step_of p) ≡ kept b p v e
    unfolding kind
    says = as_noacc
        ∙ touch_local b I p A.there (say ev.Noacc v (end_of kind e) 0) (here b p) b.standing (rw none refl)
        ∙ same p (say ev.Noacc v (end_of kind e) 0)

    -- nobody is there
    unaided : (j : ℕ) → (here b j).acceptor ≡ Aids
    unaided j = in_aids (here b j).acceptor (some_none b.count drives_nrfd b.parties refl I.pre.tail
        A.quiet j) (some_none b.count drives_ndac b.parties refl I.pre.tail A.nobody j)

    -- a turn of whichever party, or of none
    pub turn : (j : ℕ) → (m.call b (step_of j)).bus ≡ b
    turn j = test (ltb j b.count) (λ h. inside (ltb-true j b.count h))
        (λ h. ap (λ (a : Answer). a.bus) (no_step b j h))
      where
        other : j < b.count → is_source (atn_of b) (here b j) ≡ false → (m.call b (step_of j)).bus ≡ b
        other l ns = rw (as_local b I j (l, ns), unaided j)
            (ap (λ (a : Answer). a.bus) (same j (say ev.None 0 false 0)))

        inside : j < b.count → (m.call b (step_of j)).bus ≡ b
        inside l = test (is_source (atn_of b) (here b j))
            (λ h. subst (λ (i : ℕ). (m.call b (step_of i)).bus ≡ b) (one_source_lem b I p j A.source h)
            (ap (λ (a : Answer). a.bus) says))
            (other l)

    again : (turns : List ℕ) → m.run b (steps turns) ≡ b
    again [] = refl
    again (j ∷ js) = ap (λ (c : Bus). m.run c (steps js)) (turn j) ∙ again js

  -- the other way: a step that says noacc is that of a source alone
  module _ (p : ℕ) (l : p < b.count) where
    abbrev seen : View
    seen = m.view_at (place p) (lines b) b

    Told : Effect → Type 0
    Told x = (follow (atn_of b) b p x).event ≡ ev.Noacc → (v : ℕ) × (e : Bool) × Alone b p v e

    put_else : (k : Kind) (v : ℕ) (e : Bool) → Told (put k v e seen)
    unfolding Told
    put_else Command v e h = no (cc)
    put_else k v e h = no (cc)

    -- whatever follows on the end of a byte
    over_else : (z : After) (v : ℕ) (e : Bool) (q : Party)
        → Told (record { said = say ev.Ended v e 0; after = z; party = q; standing = None })
    unfolding Told
    over_else after.Settle v e q h = no (cc)
    over_else z v e q h = no (cc)

    ended_else : (st : Option Standing) → Told (ended st seen)
    unfolding Told
    ended_else None = λ h. no (cc)
    ended_else (Some st) = over_else (ended (Some st) seen).after st.value st.end (ended (Some st) seen).party

    module _ (so : is_source (atn_of b) (here b p) ≡ true) where
      its_offer : Option Byte
      its_offer = offer (is_polled (atn_of b) (here b p)) (here b p)

      its_kind : Kind
      its_kind = kind_of (is_active (here b p)) (is_polled (atn_of b) (here b p))

      ready_alone : (here b p).source ≡ Sdys → (o : Option Byte) → its_offer ≡ o → Told (ready o its_kind seen)
      unfolding Told its_offer
      ready_alone ex None eo = λ h. no (cc)
      ready_alone ex (Some y) eo = cond-elim Told (lines b).nrfd (λ _ h. no (cc))
          (λ nr. cond-elim Told (lines b).ndac (λ _. put_else its_kind y.value y.end)
          (λ nd _. (
            y.value,
            y.end,
            record { there = l; source = so; ready = ex; offers = eo; quiet = nr; nobody = nd },
          )))

      by_state : (x : Source) → (here b p).source ≡ x → Told (source_in x its_offer its_kind seen)
      unfolding Told
      by_state Sids ex = λ h. no (cc)
      by_state Sgns ex = cond-elim Told (is_some its_offer) (λ _ h. no (cc)) (λ _ h. no (cc))
      by_state Sdys ex = ready_alone ex its_offer refl
      by_state Strs ex = cond-elim Told (lines b).ndac (λ _ h. no (cc)) (λ _. ended_else b.standing)

    inside_only : (m.call b (step_of p)).event ≡ ev.Noacc → (v : ℕ) × (e : Bool) × Alone b p v e
    unfolding Told its_offer its_kind
    inside_only h = test (is_source (atn_of b) (here b p))
        (λ so. by_state so (here b p).source refl (sym (ap (λ (a : Answer). a.event) (source_step_lem b I p l so)) ∙ h))
        (λ ns. absurd (acceptor_else seen (here b p).acceptor (sym (event_of b I p (l, ns)) ∙ h)))

  pub only : (p : ℕ) → (m.call b (step_of p)).event ≡ ev.Noacc → (v : ℕ) × (e : Bool) × Alone b p v e
  only p h = test (ltb p b.count) (λ t. inside_only p (ltb-true p b.count t) h)
      (λ f. let z = ap (λ (a : Answer). a.event) (no_step b p f) in no (cc))

keeps : (b : Bus) → Inv b → Keeps b
keeps b I = record { says = says b I; again = again b I; only = only b I }

pub keeps_byte : KeepsByte
keeps_byte b led = keeps b (led_inv b led)
