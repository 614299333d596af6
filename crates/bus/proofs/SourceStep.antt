-- The source step: a put, noacc, the end of a byte.
-- Assumes nothing.
use mathlib.Core.Path.{◌≡◌, refl, sym, ap, ◌∙◌, subst}
use mathlib.Core.Bool.{Bool, true, false}
use mathlib.Core.Logic.{◌⊎◌, inl, inr}
use Prim.Native.Nat.{ℕ, ◌+◌, ◌<◌}
use native.Mathlib.Omega.{arith}
use borrow.Author.Tests.{eqb-true}
use Rattle.message.specs.Meaning.{meaning_of}
use Rattle.offer.specs.Offer.{kind_of, end_of}
use Rattle.party.specs.Parts.{one, held_bytes, with_source}
use Rattle.party.specs.Driving.{is_active, drives_nrfd}
use Rattle.role.specs.Roles.{role_heard, passes_control}
use Rattle.party.specs.Sending.{is_source, is_polled, offer, party_heard}
use Rattle.role.proofs.Logic.{no, cond-elim}
use Rattle.party.proofs.Settled.{source_case}
use Rattle.parties.specs.Places.{place, other_talker}
use Rattle.parties.proofs.Places.{some_none}
use Rattle.bus.specs.Types.{Place, Party, Source, Sids, Sgns, Sdys, Strs, Byte, Kind, Command, Data}
use Rattle.bus.specs.Types.{Status, Event, Standing, Bus, After, Effect, View}
use Rattle.bus.specs.Types.ev
use Rattle.bus.specs.Types.after
use Rattle.bus.specs.Types.call_of
use Rattle.bus.specs.Types.act_of
use Rattle.bus.specs.Record.{here, lines}
use Rattle.effect.specs.Stands.{of_command}
use Rattle.effect.specs.Effects.{say, does, stay, moved}
use Rattle.source_step.specs.SourceStep.{put, noacc, ready, pass_to, ended, ended_byte, source_in}
use Rattle.bus.specs.Settling.{settle, follow}
use Rattle.bus.specs.Machine.{view_at}
use Rattle.bus.specs.Delivery.{is_put, is_end, is_take, is_host_put}
use Rattle.bus.proofs.Invariant.{sent_by, look, look_idle, Pre, Inv, atn_of, quiet}
use Rattle.bus.proofs.Putting.{Fit, put_pre, end_pre, nothing_stands, look_on}
use Rattle.bus.proofs.Summary.{Good, put_good, end_good, none_ready}
use Rattle.bus.proofs.OneParty.{plain_good, plain_same, plain_source, step_caller, stay_good}
use Rattle.bus.proofs.Passing.{pass_to_lem}
use Rattle.std.specs.Prelude.{Option, Some, None, is_some}
use Rattle.effect.specs.Stands.{sent}
use Rattle.offer.specs.Offer.{byte}

-- the kinds
kind_command : (x y : Bool) → kind_of x y ≡ Command → x ≡ true
kind_command true y e = refl
kind_command false true e = no (cc)
kind_command false false e = no (cc)

kind_data : (x y : Bool) → kind_of x y ≡ Data → (x ≡ false) × (y ≡ false)
kind_data false false e = (refl, refl)
kind_data x y e = no (cc)

kind_status : (x y : Bool) → kind_of x y ≡ Status → (x ≡ false) × (y ≡ true)
kind_status false true e = (refl, refl)
kind_status x y e = no (cc)

atn_unpolled : (t : Bool) (p : Party) → t ≡ true → is_polled t p ≡ false
atn_unpolled t p e = rw e

module _ (b : Bus) (I : Inv b) (p : Place) (l : p.0 < b.count) (so : is_source (atn_of b) (here b p.0) ≡ true) where
  G : Effect → Type 0
  G e = Good b (call_of.Of p act_of.Step) (follow (atn_of b) b p.0 e)

  -- what the party sees
  abbrev seen : View
  seen = view_at p (lines b) b

  kind : Kind
  kind = kind_of (is_active (here b p.0)) (is_polled (atn_of b) (here b p.0))

  talker : Option Place
  talker = other_talker b.count p.0 b.parties

  -- a source that is not active talks with ATN false
  atn_off : is_active (here b p.0) ≡ false → atn_of b ≡ false
  atn_off e = go (source_case (atn_of b) (here b p.0) so)
    where
      go : (is_active (here b p.0) ≡ true) ⊎ ((atn_of b ≡ false) × ((here b p.0).role.talk ≡ true))
          → atn_of b ≡ false
      go (inl h) = no (cc)
      go (inr h) = h.0

  -- a byte that is not the status byte comes out of the held register
  from_held : (v : ℕ) (e : Bool) → is_polled (atn_of b) (here b p.0) ≡ false
      → offer (is_polled (atn_of b) (here b p.0)) (here b p.0) ≡ Some (byte v e) → held_bytes (here b p.0) ≡ 1
  from_held v e n o = ap (λ (s : Option Byte). one (is_some s)) (sym (held n) ∙ o)
    where
      held : is_polled (atn_of b) (here b p.0) ≡ false
          → offer (is_polled (atn_of b) (here b p.0)) (here b p.0) ≡ (here b p.0).held
      held h = rw h

  stays : G (stay seen)
  unfolding G
  stays = stay_good b I p l

  -- a source that is not in STRS, and does not come to it, moves
  moves : (s : Source) → (s ≡ Strs → ⊥) → ((here b p.0).source ≡ Strs → ⊥)
      → G (moved seen (with_source s (here b p.0)))
  unfolding G
  moves s n m = plain_good b (call_of.Of p act_of.Step) I p.0 l (say ev.Moved 0 false 0)
      (with_source s (here b p.0)) (plain_source (here b p.0) (here b p.0) s (plain_same (here b p.0)) n m)
      (step_caller b I p l) refl refl refl refl

  module _ (sd : (here b p.0).source ≡ Sdys) where
    put_with : (x : Event) (new : Party) (k : Kind) (v : ℕ) (y : Bool) → is_put x ≡ true → is_end x ≡ false
        → is_take x ≡ false
        → new.role ≡ (here b p.0).role → new.control ≡ (here b p.0).control
        → new.acceptor ≡ (here b p.0).acceptor → new.input ≡ (here b p.0).input → new.source ≡ Strs
        → Fit (atn_of b) new k y → (lines b).nrfd ≡ false
        → held_bytes (here b p.0) ≡ one (is_host_put x) + held_bytes new
        → Good b (call_of.Of p act_of.Step) (settle (atn_of b) b p.0 (does (say x v y 0) new (Some (sent p k v y))))
    put_with x new k v y ip ie it er ec eb ei es F nr w = put_good b I p l x new k v y ip ie it none (rw ec) eb
        (rw (ec, er) so) w
        (put_pre b.count (atn_of b) (here b)
        (subst (λ (st : Option Standing). Pre b.count (atn_of b) (here b) st) none I.pre) p.0 l new k v y er ec eb
        ei es F (some_none b.count drives_nrfd b.parties refl I.pre.tail nr))
      where
        not_strs : (here b p.0).source ≡ Strs → ⊥
        not_strs e = no (cc)

        none : b.standing ≡ None
        none = nothing_stands b.count (atn_of b) (here b) b.standing I.pre (quiet b I) p.0 so not_strs

    put_kind : (k : Kind) (v : ℕ) (e : Bool) → kind ≡ k
        → offer (is_polled (atn_of b) (here b p.0)) (here b p.0) ≡ Some (byte v e) → (lines b).nrfd ≡ false
        → G (put k v e seen)
    unfolding kind G
    put_kind Command v e ek eo nr =
        let a = kind_command (is_active (here b p.0)) (is_polled (atn_of b) (here b p.0)) ek in
        let t = I.pre.atn_if p.0 a in
        let u = atn_unpolled (atn_of b) (here b p.0) t in
        put_with _ (put Command v e seen).party Command v false refl refl refl refl refl refl refl refl
        (record { command = sym t; leads = λ _. a; plain = λ h. no (cc); status = sym u }) nr (from_held v e u eo)
    put_kind Data v e ek eo nr = let a = kind_data (is_active (here b p.0)) (is_polled (atn_of b) (here b p.0)) ek in
        put_with _ (put Data v e seen).party Data v e refl refl refl refl refl refl refl refl
        (record { command = sym (atn_off a.0); leads = λ h. no (cc); plain = λ h. refl; status = sym a.1 }) nr
        (from_held v e a.1 eo)
    put_kind Status v e ek eo nr =
        let a = kind_status (is_active (here b p.0)) (is_polled (atn_of b) (here b p.0)) ek in
        put_with _ (put Status v e seen).party Status v false refl refl refl refl refl refl refl refl
        (record { command = sym (atn_off a.0); leads = λ h. no (cc); plain = λ h. no (cc); status = sym a.1 }) nr
        (omega arith)

    noacc_good : (k : Kind) (v : ℕ) (e : Bool) → G (noacc k v e seen)
    unfolding G
    noacc_good k v e = plain_good b (call_of.Of p act_of.Step) I p.0 l (say ev.Noacc v (end_of k e) 0) (here b p.0)
        (plain_same (here b p.0)) (step_caller b I p l) refl refl refl refl

    ready_good : (o : Option Byte) → offer (is_polled (atn_of b) (here b p.0)) (here b p.0) ≡ o → G (ready o kind seen)
    ready_good None eo = moves Sgns (λ e. no (cc)) (λ e. no (cc))
    ready_good (Some y) eo = cond-elim G (lines b).nrfd (λ _. stays)
        (λ nr. cond-elim G (lines b).ndac (λ _. put_kind kind y.value y.end refl eo nr)
        (λ _. noacc_good kind y.value y.end))

  -- The byte ends: party p sent it, and nobody is left to take it.
  module _ (st : (here b p.0).source ≡ Strs) (nd : (lines b).ndac ≡ false) where
    mine : sent_by p.0 b.standing ≡ true
    mine = I.pre.sends p.0 st

    its_sender : (s : Place) (k : Kind) (v : ℕ) (e : Bool) → b.standing ≡ Some (sent s k v e)
        → b.standing ≡ Some (sent p k v e)
    its_sender s k v e es = es ∙ ap (λ (x : ℕ). Some (sent (place x) k v e)) (sym (eqb-true p.0 s.0 (rw es at mine)))

    over_good : (q : Party) (k : Kind) (v : ℕ) (e : Bool) → b.standing ≡ Some (sent p k v e)
        → q.role ≡ look b.standing p.0 (here b p.0) → q.control ≡ (here b p.0).control
        → q.acceptor ≡ (here b p.0).acceptor → q.input ≡ (here b p.0).input → q.held ≡ (here b p.0).held
        → q.source ≡ Sgns
        → Good b (call_of.Of p act_of.Step) (settle (atn_of b) b p.0 (does (say ev.Ended v e 0) q None))
    over_good q k v e es er ec eb ei eh eo = end_good b I p l q k v e es nd (rw ec) eb eh
        (end_pre b.count (atn_of b) (here b) b.standing I.pre p.0 l mine q er ec eb ei eo
        (none_ready b I nd))

    -- data and status bytes
    plain_end : (k : Kind) (v : ℕ) (e : Bool) → of_command k ≡ false → b.standing ≡ Some (sent p k v e)
        → Good b (call_of.Of p act_of.Step)
        (settle (atn_of b) b p.0 (does (say ev.Ended v e 0) (with_source Sgns (here b p.0)) None))
    plain_end k v e n es = over_good (with_source Sgns (here b p.0)) k v e es
        (sym (look_idle b.standing (rw es n) p.0 (here b p.0))) refl refl refl refl refl

    command_end : (v : ℕ) (e : Bool) → b.standing ≡ Some (sent p Command v e)
        → G (ended (Some (sent p Command v e)) seen)
    unfolding G talker
    command_end v e es = go talker refl (passes_control (meaning_of v)) refl
      where
        heard : Party
        heard = with_source Sgns (party_heard v (here b p.0))

        own : look b.standing p.0 (here b p.0) ≡ role_heard (meaning_of v) (here b p.0).role
        own = look_on b.standing p.0 (here b p.0) (rw (mine, es)) ∙ rw es refl

        just : (z : After) → Good b (call_of.Of p act_of.Step)
            (settle (atn_of b) b p.0
            (record { said = say ev.Ended v e 0; after = z; party = heard; standing = None }))
        just z = over_good heard Command v e es (sym own) refl refl refl refl refl

        go : (x : Option Place) → talker ≡ x → (z : Bool) → passes_control (meaning_of v) ≡ z
            → G (record { said = say ev.Ended v e 0; after = pass_to z x; party = heard; standing = None })
        go None h z ez = just after.Settle
        go (Some j) h false ez = just after.Settle
        go (Some j) h true ez = pass_to_lem b I p l v e es nd ez (after.Pass j) j h

    ended_good : (x : Option Standing) → b.standing ≡ x → G (ended x seen)
    unfolding G
    ended_good None es = stay_good b I p l
    ended_good (Some st) es = go st.kind es
      where
        go : (k : Kind) → b.standing ≡ Some (sent st.sender k st.value st.end) → G (ended_byte k st.value st.end seen)
        go Command es = command_end st.value st.end (its_sender st.sender Command st.value st.end es)
        go Data es = plain_end Data st.value st.end refl (its_sender st.sender Data st.value st.end es)
        go Status es = plain_end Status st.value st.end refl (its_sender st.sender Status st.value st.end es)

  by_state : (x : Source) → (here b p.0).source ≡ x
      → G (source_in x (offer (is_polled (atn_of b) (here b p.0)) (here b p.0)) kind seen)
  by_state Sids ex = stays
  by_state Sgns ex = cond-elim G (is_some (offer (is_polled (atn_of b) (here b p.0)) (here b p.0)))
      (λ _. moves Sdys (λ e. no (cc)) (λ e. no (cc))) (λ _. stays)
  by_state Sdys ex = ready_good ex (offer (is_polled (atn_of b) (here b p.0)) (here b p.0)) refl
  by_state Strs ex = cond-elim G (lines b).ndac (λ _. stays) (λ nd. ended_good ex nd b.standing refl)

  pub source_good : (x : Source) → (here b p.0).source ≡ x
      → Good b (call_of.Of p act_of.Step) (follow (atn_of b) b p.0
      (source_in x (offer (is_polled (atn_of b) (here b p.0)) (here b p.0))
      (kind_of (is_active (here b p.0)) (is_polled (atn_of b) (here b p.0))) seen))
  unfolding G kind talker
  source_good x ex = by_state x ex
