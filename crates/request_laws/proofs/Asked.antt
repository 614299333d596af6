-- What one call leaves of its party's request for service, and what its effect tells of a status byte.
-- Assumes nothing.
use mathlib.Core.Path.{◌≡◌, refl, sym}
use mathlib.Core.Bool.{Bool, true, false, not, cond, ◌||◌}
use Rattle.std.specs.Prelude.{Option, Some, None, is_some}
use Rattle.message.specs.Meaning.{meaning_of}
use Rattle.service.specs.declared.Request.{Request}
use Rattle.service.specs.Service.{status, with_saved, with_rsv2, reported}
use Rattle.role.proofs.Logic.{no, cond-elim}
use Rattle.role.proofs.Roles.{hear_events}
use Rattle.offer.specs.Offer.{kind_of}
use Rattle.party.specs.Driving.{is_active}
use Rattle.party.specs.Sending.{is_source, is_polled, offer, parted}
use Rattle.effect.specs.Calls.{is_on}
use Rattle.effect.specs.Stands.{of_command}
use Rattle.effect.specs.Effects.{with_standing}
use Rattle.source_step.specs.SourceStep.{put, ready, ended, source_in}
use Rattle.acceptor_step.specs.AcceptorStep.{takes as takes-up, acceptor_in}
use Rattle.host_calls.specs.HostCalls.{read_out}
use Rattle.accepted.specs.Accepted.{step, effect_of}
use Rattle.bus.specs.Types.{Place, Party, Source, Sids, Sgns, Sdys, Strs, Acceptor, Anrs, Acrs, Awns}
use Rattle.bus.specs.Types.{Byte, Kind, Status, Event, EachLine, Standing, Call, After, Outcome, Effect, View}
use Rattle.bus.specs.Types.after
use Rattle.bus.specs.Types.call_of
use Rattle.bus.specs.Types.act_of
use Rattle.bus.specs.Delivery.{deed, puts_host, puts_status, takes, ends, neither}

abbrev pub is_stat : Event → Bool
is_stat x = elim (deed x) [ puts_host ↦ false | puts_status ↦ true | takes ↦ false | ends ↦ false | neither ↦ false ]

-- the request that a call leaves its party with, before it settles
abbrev pub asked : Call → Event → Request → Request
asked (call_of.Of i act_of.Step) x q = cond (is_stat x) (reported q) q
asked (call_of.Of i (act_of.PollRegister v)) x q = with_saved v q
asked (call_of.Of i act_of.Reset) x q = with_rsv2 false q
asked (call_of.Of i (act_of.SecondRequest on)) x q = with_rsv2 (is_on on) q
asked c x q = q

-- What follows finds ATN as the call did where no attention follows, and control goes on from a party whose request is
-- as it was.
abbrev pub Fair : After → Party → Party → Type 0
Fair after.Settle p q = is_active q ≡ is_active p
Fair (after.Pass j) p q = q.request ≡ p.request
Fair after.Attend p q = q ≡ q
Fair after.Clear p q = q ≡ q
Fair after.Poll p q = is_active q ≡ is_active p

fair : (x : After) (p q : Party) → is_active q ≡ is_active p → q.request ≡ p.request → Fair x p q
fair after.Settle p q a r = a
fair (after.Pass j) p q a r = r
fair after.Poll p q a r = a
fair x p q a r = refl

module _ (l : EachLine Bool) (p : Party) where
  -- a step that puts a status byte
  pub record Reports (e : Effect) : Type 0 where
    pub polled : is_polled l.atn p ≡ true
    pub byte : e.said.byte ≡ status p.request
    pub follows : e.after ≡ after.Settle
    pub party : e.party ≡ parted Status p

  -- a step that puts none leaves the request and who is active
  pub data Turn (e : Effect) : Type 0 where
    silent : is_stat e.said.event ≡ false → e.party.request ≡ p.request → is_active e.party ≡ is_active p
        → Turn e
    reports : is_stat e.said.event ≡ true → Reports e → Turn e

  -- what each call leaves
  pub record Leaves (c : Call) (e : Effect) : Type 0 where
    pub request : e.party.request ≡ asked c e.said.event p.request
    pub follows : Fair e.after p e.party

  step_leaves : (i : Place) (e : Effect) → Turn e → Leaves (call_of.Of i act_of.Step) e
  step_leaves i e (silent n r a) = record { request = rw n r; follows = fair e.after p e.party a r }
  step_leaves i e (reports y w) = record { request = rw (y, w.party) refl; follows = rw (w.follows, w.party) refl }

-- the kind is status only of a polled party, whose offer is its status byte
of_polled : (x y : Bool) → kind_of x y ≡ Status → y ≡ true
of_polled true y e = no (cc)
of_polled false true e = refl
of_polled false false e = no (cc)

of_status_lem : (p : Party) (y : Bool) (z : Byte) → y ≡ true → offer y p ≡ Some z → z.value ≡ status p.request
of_status_lem p true z h o = cc
of_status_lem p false z h o = no (cc)

module _ (v : View) where
  abbrev Turned : Effect → Type 0
  Turned = Turn v.lines v.party

  put_turn : (k : Kind) (z : Byte) → let p = v.party in let y = is_polled v.lines.atn p in kind_of (is_active p) y ≡ k
      → offer y p ≡ Some z → Turned (put k z.value z.end v)
  put_turn Status z ek eo = let p = v.party in let y = is_polled v.lines.atn p in
      let h = of_polled (is_active p) y ek in
      reports refl (record { polled = h; byte = of_status_lem p y z h eo; follows = refl; party = refl })
  put_turn k z ek eo = silent refl refl refl

  ready_turn : (o : Option Byte) → let p = v.party in let y = is_polled v.lines.atn p in offer y p ≡ o
      → Turned (ready o (kind_of (is_active p) y) v)
  ready_turn None eo = silent refl refl refl
  ready_turn (Some y) eo = cond-elim Turned v.lines.nrfd (λ _. silent refl refl refl)
      (λ _. cond-elim Turned v.lines.ndac
      (λ _. put_turn (kind_of (is_active v.party) (is_polled v.lines.atn v.party)) y refl eo)
      (λ _. silent refl refl refl))

  ended_turn : (st : Option Standing) → Turned (ended st v)
  ended_turn None = silent refl refl refl
  ended_turn (Some st) = let p = v.party in
      silent refl (cond-elim (λ (q : Party). q.request ≡ p.request) (of_command st.kind) (λ _. refl) (λ _. refl))
      (cond-elim (λ (q : Party). is_active q ≡ is_active p) (of_command st.kind) (λ _. refl) (λ _. refl))

  source_turn : (s : Source) → let p = v.party in let y = is_polled v.lines.atn p in Turned (source_in s (offer y p)
      (kind_of (is_active p) y) v)
  source_turn Sids = silent refl refl refl
  source_turn Sgns = cond-elim Turned (is_some (offer (is_polled v.lines.atn v.party) v.party))
      (λ _. silent refl refl refl) (λ _. silent refl refl refl)
  source_turn Sdys = ready_turn (offer (is_polled v.lines.atn v.party) v.party) refl
  source_turn Strs = cond-elim Turned v.lines.ndac (λ _. silent refl refl refl) (λ _. ended_turn v.standing)

  takes_turn : (st : Option Standing) → Turned (takes-up st v)
  takes_turn None = silent refl refl refl
  takes_turn (Some st) = cond-elim Turned v.lines.atn
      (λ _. silent (hear_events (λ (y : Event). is_stat y ≡ false) refl refl refl (meaning_of st.value)
      v.party.role.listen) refl refl)
      (λ _. silent refl refl refl)

  acceptor_turn : (a : Acceptor) → Turned (acceptor_in a v)
  acceptor_turn Anrs = cond-elim Turned (v.lines.atn || not (is_some v.party.input)) (λ _. silent refl refl refl)
      (λ _. silent refl refl refl)
  acceptor_turn Acrs = cond-elim Turned v.lines.dav (λ _. takes_turn v.standing) (λ _. silent refl refl refl)
  acceptor_turn Awns = cond-elim Turned v.lines.dav (λ _. silent refl refl refl) (λ _. silent refl refl refl)
  acceptor_turn a = silent refl refl refl

  pub step_turn : Turned (step v)
  step_turn = let p = v.party in cond-elim Turned (is_source v.lines.atn p) (λ _. source_turn p.source) (λ _.
      acceptor_turn p.acceptor)

  read_leaves : (i : Place) (s : Option Byte) → Leaves v.lines v.party (call_of.Of i act_of.Read) (with_standing
      v.standing (read_out s v.party))
  read_leaves i None = record { request = refl; follows = refl }
  read_leaves i (Some y) = record { request = refl; follows = refl }

  pub leaves : (c : Call) → Leaves v.lines v.party c (effect_of v c)
  leaves (call_of.Of i act_of.Step) = step_leaves v.lines v.party i (step v) step_turn
  leaves (call_of.Of i act_of.Read) = read_leaves i v.party.input
  leaves (call_of.Of i act_of.Reset) = cond-elim
      (λ (o : Outcome). Leaves v.lines v.party (call_of.Of i act_of.Reset) (with_standing v.standing o))
      (is_active v.party) (λ _. record { request = refl; follows = refl })
      (λ h. record { request = refl; follows = sym h })
  leaves c = record { request = refl; follows = refl }
