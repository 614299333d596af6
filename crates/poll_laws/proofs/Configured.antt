-- What changes a party's response and whether it is configuring: its own turns and its own reset.
-- Assumes nothing.
use mathlib.Core.Path.{◌≡◌, refl, sym, ap, ◌∙◌}
use mathlib.Core.Bool.{Bool, true, false, not, cond, ◌||◌}
use mathlib.Core.List.{List}
use Prim.Native.Nat.{ℕ, ◌<◌}
use native.Mathlib.Omega.{arith}
use Rattle.std.specs.Prelude.{Option, Some, None, Ok, is_some}
use lib.Dec.{eqb}
use lib.ListN.{length, set}
use lib.Seq.{get_or-set_same, get_or-set_other}
use borrow.Author.Tests.{eqb-true, eqb-false}
use Rattle.message.specs.Meaning.{meaning_of}
use Rattle.role.specs.declared.Mark.{Mark}
use Rattle.role.specs.declared.Mark.TheVariants.{Unmarked, TalkPrimary, ListenPrimary, Configuring}
use Rattle.role.specs.declared.Response.{Response}
use Rattle.role.specs.Roles.{role_heard, without_address, hear_event, passes_control}
use Rattle.role.proofs.Logic.{no, test, cond-elim}
use Rattle.role.proofs.Roles.{hear_events}
use Rattle.offer.specs.Offer.{kind_of}
use Rattle.party.specs.Parts.{idle, with_acceptor, with_source}
use Rattle.party.specs.Driving.{is_active}
use Rattle.party.specs.Sending.{is_source, is_polled, offer, party_heard}
use Rattle.party.specs.Settling.{attended, settled, change_control, cleared, wiped}
use Rattle.parties.specs.Places.{place, at, some, each, talks}
use Rattle.parties.proofs.Places.{set_part, each_part, first_found}
use Rattle.effect.specs.Calls.{is_accepted}
use Rattle.effect.specs.Stands.{stands, of_command}
use Rattle.effect.specs.Effects.{say, with_standing}
use Rattle.refusals.specs.Refusals as refusals
use Rattle.source_step.specs.SourceStep.{put, ready, ended, source_in, pass_to}
use Rattle.acceptor_step.specs.AcceptorStep.{takes, acceptor_in}
use Rattle.accepted.specs.Accepted.{step, acted, effect_of}
use Rattle.host_calls.specs.HostCalls.{read_out, reset_acceptor}
use Rattle.bus.specs.declared.Bus.{Bus}
use Rattle.bus.specs.declared.Answer.{Answer}
use Rattle.bus.specs.Types.{Place, Party, Idle, Active, Source, Sids, Sgns, Sdys, Strs, Acceptor, Anrs, Acrs}
use Rattle.bus.specs.Types.{Awns, Byte, Kind, Command, Standing, Event, Act, Call, After, Outcome, Effect, View}
use Rattle.bus.specs.Types.ev
use Rattle.bus.specs.Types.after
use Rattle.bus.specs.Types.call_of
use Rattle.bus.specs.Types.act_of
use Rattle.bus.specs.Record.{here, lines}
use Rattle.bus.specs.Settling.{followed}
use Rattle.bus.specs.Machine as m
use Rattle.bus.proofs.Accepting.{known}
use Rattle.bus.proofs.Invariant.{is_command}
use Rattle.runner.specs.Lists.{LedTo}
use Rattle.runner.proofs.Led.{led_inv}
use Rattle.poll_laws.specs.Kept.{is_configuring, configuration, ConfigurationKept, ConfiguredByHearing}
use Rattle.poll_laws.specs.Kept.{ResetUnconfigures, has_heard}

abbrev conf : Party → Option Response × Bool
conf p = configuration p.role

still_configuring : (x : Mark) → is_configuring (without_address x) ≡ is_configuring x
still_configuring Unmarked = refl
still_configuring TalkPrimary = refl
still_configuring ListenPrimary = refl
still_configuring Configuring = refl

-- What follows on an effect on party i.
module _ (b : Bus) (i : ℕ) (e : Effect) where
  settle_conf : (t : Bool) (ps : List Party) (j : ℕ) → conf (at (each b.count (settled t) ps) j) ≡ conf (at ps j)
  settle_conf t ps = each_part conf b.count (settled t) ps (λ p. refl)

  attend_conf : (ps : List Party) (j : ℕ) → let t = some b.count is_active ps in
      conf (at (each b.count (settled t) (each b.count (attended t) ps)) j) ≡ conf (at ps j)
  attend_conf ps j = let t = some b.count is_active ps in
      settle_conf t (each b.count (attended t) ps) j
      ∙ each_part conf b.count (attended t) ps
      (λ p. ap (λ (x : Bool). (p.role.response, x)) (still_configuring p.role.mark)) j

  clear_conf : (j : ℕ) → conf (at (each b.count cleared b.parties) j) ≡ conf (here b j)
  clear_conf = each_part conf b.count cleared b.parties (λ p. refl)

  -- the party with control given up, and who gets it
  abbrev left : List Party
  left = set b.parties i (change_control Idle e.party)

  abbrev next : Place → Party
  next k = change_control Active (here b k.0)

  -- of any other party
  other : (x : After) (t : Bool) (j : ℕ) → (j ≡ i → ⊥) → conf (here (followed x t b i e).bus j) ≡ conf (here b j)
  other after.Settle t j n = settle_conf t (set b.parties i e.party) j
      ∙ ap conf (get_or-set_other b.parties i j e.party idle n)
  other (after.Pass k) t j n = attend_conf (set left k.0 (next k)) j ∙ test (eqb j k.0)
      (λ h. let q = eqb-true j k.0 h in
      set_part conf left k.0 (next k)
      (ap (λ (n : ℕ). conf (here b n)) (sym q) ∙ sym (ap conf rest) ∙ ap (λ (n : ℕ). conf (at left n)) q) j
      ∙ ap conf rest)
      (λ h. ap conf (get_or-set_other left k.0 j (next k) idle (eqb-false j k.0 h) ∙ rest))
    where
      rest : at left j ≡ here b j
      rest = get_or-set_other b.parties i j (change_control Idle e.party) idle n
  other after.Attend t j n = attend_conf (set b.parties i e.party) j
      ∙ ap conf (get_or-set_other b.parties i j e.party idle n)
  other after.Clear t j n =
      attend_conf (set (each b.count cleared b.parties) i e.party) j
      ∙ ap conf (get_or-set_other (each b.count cleared b.parties) i j e.party idle n) ∙ clear_conf j
  other after.Poll t j n = settle_conf t (set b.parties i e.party) j
      ∙ ap conf (get_or-set_other b.parties i j e.party idle n)

  -- of every party, where the effect leaves it
  every : conf e.party ≡ conf (here b i) → (x : After) (t : Bool) (j : ℕ)
      → conf (here (followed x t b i e).bus j) ≡ conf (here b j)
  every q after.Settle t j = settle_conf t (set b.parties i e.party) j
      ∙ set_part conf b.parties i e.party q j
  every q (after.Pass k) t j = attend_conf (set left k.0 (next k)) j
      ∙ set_part conf left k.0 (next k) (sym (kept k.0)) j ∙ kept j
    where
      kept : (j : ℕ) → conf (at left j) ≡ conf (here b j)
      kept = set_part conf b.parties i (change_control Idle e.party) q
  every q after.Attend t j = attend_conf (set b.parties i e.party) j
      ∙ set_part conf b.parties i e.party q j
  every q after.Clear t j =
      attend_conf (set (each b.count cleared b.parties) i e.party) j
      ∙ set_part conf (each b.count cleared b.parties) i e.party (q ∙ sym (clear_conf i)) j ∙ clear_conf j
  every q after.Poll t j = settle_conf t (set b.parties i e.party) j
      ∙ set_part conf b.parties i e.party q j

-- the acts of the host but a step and a reset
module _ (v : View) where
  read_conf : (s : Option Byte) → conf (read_out s v.party).party ≡ conf v.party
  read_conf None = refl
  read_conf (Some y) = refl

  host_conf : (a : Act) → (a ≡ act_of.Step → ⊥) → (a ≡ act_of.Reset → ⊥) → conf (acted v a).party ≡ conf v.party
  host_conf act_of.Step n r = absurd (n refl)
  host_conf act_of.Read n r = read_conf v.party.input
  host_conf act_of.Reset n r = absurd (r refl)
  host_conf a n r = refl

pub configuration_kept : ConfigurationKept
configuration_kept b c j ns nr = cond-elim (λ (a : Answer). conf (here a.bus j) ≡ conf (here b j))
    (is_accepted (m.verdict (lines b) b c)) (λ _. go c ns nr) (λ _. refl)
  where
    named : {p : Place} {a d : Act} → j ≡ p.0 → a ≡ d → call_of.Of p a ≡ call_of.Of (place j) d
    named {p = p} {d = d} q s = ap (λ (x : Act). call_of.Of p x) s ∙ ap (λ (n : ℕ). call_of.Of (place n) d) (sym q)

    go : (c : Call) → (c ≡ call_of.Of (place j) act_of.Step → ⊥) → (c ≡ call_of.Of (place j) act_of.Reset → ⊥)
        → conf (here (m.accepted (lines b) b c).bus j) ≡ conf (here b j)
    go (call_of.Of p a) ns nr =
        let v = m.view_at p (lines b) b in
        let e = acted v a in
        test (eqb j p.0)
        (λ h. let q = eqb-true j p.0 h in
        every b p.0 e
        (host_conf v a (λ s. ns (named q s)) (λ s. nr (named q s)))
        e.after (lines b).atn j)
        (λ h. other b p.0 e e.after (lines b).atn j (eqb-false j p.0 h))
    go call_of.Lines ns nr = let e = effect_of (m.view_at (place 0) (lines b) b) call_of.Lines in
        every b 0 e refl e.after (lines b).atn j
    go call_of.Drivers ns nr = let e = effect_of (m.view_at (place 0) (lines b) b) call_of.Drivers in
        every b 0 e refl e.after (lines b).atn j

-- A turn: the party's configuration is what the byte leaves that it hears.
module _ (v : View) where
  abbrev left_by : Event → ℕ → Option Response × Bool
  left_by x n = configuration
      (cond (has_heard v.lines.atn x) (role_heard (meaning_of n) v.party.role) v.party.role)

  -- what follows on a turn, and that it speaks of the same byte
  abbrev Goes : After → Event → Type 0
  Goes after.Settle x = x ≡ x
  Goes (after.Pass j) x = (v.talker ≡ Some j) × (x ≡ ev.Ended)
  Goes y x = ⊥

  pub record Turned (e : Effect) : Type 0 where
    pub goes : Goes e.after e.said.event
    pub leaves : conf e.party ≡ left_by e.said.event e.said.byte

  abbrev left_as : {e : Effect} → Goes e.after e.said.event
      → conf e.party ≡ left_by e.said.event e.said.byte → Turned e
  left_as g h = record { goes = g; leaves = h }

  put_turned : (k : Kind) (x : ℕ) (e : Bool) → Turned (put k x e v)
  put_turned Command x e = left_as refl refl
  put_turned k x e = left_as refl refl

  ready_turned : (o : Option Byte) (k : Kind) → Turned (ready o k v)
  ready_turned None k = left_as refl refl
  ready_turned (Some y) k = cond-elim Turned v.lines.nrfd (λ _. left_as refl refl)
      (λ _. cond-elim Turned v.lines.ndac (λ _. put_turned k y.value y.end) (λ _. left_as refl refl))

  passes : (x : Bool) (f : Option Place) → v.talker ≡ f → Goes (pass_to x f) ev.Ended
  passes x None h = refl
  passes true (Some j) h = (h, refl)
  passes false (Some j) h = refl

  -- what the byte x leaves, if it is heard or not
  heard_or_not : (x : ℕ) {c d : Bool} → c ≡ d
      → configuration (cond c (role_heard (meaning_of x) v.party.role) v.party.role)
      ≡ configuration (cond d (role_heard (meaning_of x) v.party.role) v.party.role)
  heard_or_not x q = ap
      (λ (y : Bool). configuration (cond y (role_heard (meaning_of x) v.party.role) v.party.role)) q

  ended_turned : (st : Option Standing) → (stands st ≡ true → is_command st ≡ v.lines.atn) → Turned (ended st v)
  ended_turned None kind = left_as refl refl
  ended_turned (Some st) kind = go (of_command st.kind) (kind refl)
    where
      go : (c : Bool) → c ≡ v.lines.atn → Turned (record {
        said = say ev.Ended st.value st.end 0;
        after = cond c (pass_to (passes_control (meaning_of st.value)) v.talker) after.Settle;
        party = with_source Sgns (cond c (party_heard st.value v.party) v.party);
        standing = None;
      })
      go true q = left_as (passes (passes_control (meaning_of st.value)) v.talker refl) (heard_or_not st.value q)
      go false q = left_as refl (heard_or_not st.value q)

  takes_turned : (st : Option Standing) → Turned (takes st v)
  takes_turned None = left_as refl refl
  takes_turned (Some st) = cond-elim Turned v.lines.atn
      (λ on. left_as refl (heard_or_not st.value {c = true} (sym (taken on))))
      (λ off. left_as refl (heard_or_not st.value {c = false} (sym off)))
    where
      taken : v.lines.atn ≡ true → let y = hear_event (meaning_of st.value) v.party.role.listen in
          has_heard v.lines.atn y ≡ true
      taken on = hear_events (λ (y : Event). has_heard v.lines.atn y ≡ true) on on on
          (meaning_of st.value) v.party.role.listen

  source_turned : (stands v.standing ≡ true → is_command v.standing ≡ v.lines.atn) → (s : Source) (o : Option Byte)
      (k : Kind) → Turned (source_in s o k v)
  source_turned kind Sids o k = left_as refl refl
  source_turned kind Sgns o k = cond-elim Turned (is_some o) (λ _. left_as refl refl) (λ _. left_as refl refl)
  source_turned kind Sdys o k = ready_turned o k
  source_turned kind Strs o k = cond-elim Turned v.lines.ndac (λ _. left_as refl refl)
      (λ _. ended_turned v.standing kind)

  acceptor_turned : (a : Acceptor) → Turned (acceptor_in a v)
  acceptor_turned Anrs = cond-elim Turned (v.lines.atn || not (is_some v.party.input)) (λ _. left_as refl refl)
      (λ _. left_as refl refl)
  acceptor_turned Acrs = cond-elim Turned v.lines.dav (λ _. takes_turned v.standing) (λ _. left_as refl refl)
  acceptor_turned Awns = cond-elim Turned v.lines.dav (λ _. left_as refl refl) (λ _. left_as refl refl)
  acceptor_turned a = left_as refl refl

  turned : (stands v.standing ≡ true → is_command v.standing ≡ v.lines.atn) → Turned (step v)
  turned kind = let t = v.lines.atn in let p = v.party in
      cond-elim Turned (is_source t p)
      (λ _. source_turned kind p.source (offer (is_polled t p) p) (kind_of (is_active p) (is_polled t p)))
      (λ _. acceptor_turned p.acceptor)

-- A store to the place of an accepted call is seen.
fits : (b : Bus) → LedTo b → (p : Place) (a : Act) → is_accepted (m.verdict (lines b) b (call_of.Of p a)) ≡ true
    → p.0 < length b.parties
fits b led p a ok =
    let I = led_inv b led in
    let l = (known b p (refusals.own (m.view_at p (lines b) b) a) ok).0 in
    let s = I.small in
    rw I.size (omega arith)

-- What follows leaves of the party what its turn left, and speaks of the byte that its turn spoke of.
module _ (b : Bus) (p : Place) (e : Effect) (l : p.0 < length b.parties) where
  abbrev v : View
  v = m.view_at p (lines b) b

  -- who gets control is another party
  apart : (k : Place) → v.talker ≡ Some k → p.0 ≡ k.0 → ⊥
  apart k h q =
      let r = first_found 0 b.count talks (set b.parties p.0 idle) k h in
      let d : p.0 ≡ r.0 = q ∙ omega (arith, r.1.0) in
      let z = ap talks (get_or-set_same b.parties p.0 idle idle l) in
      let y = ap (λ (n : ℕ). talks (at (set b.parties p.0 idle) n)) d ∙ r.1.1 in
      no (cc)

  own : (x : After) (t : Bool) → Goes v x e.said.event
      → conf (here (followed x t b p.0 e).bus p.0) ≡ conf e.party
  own after.Settle t g = settle_conf b p.0 e t (set b.parties p.0 e.party) p.0
      ∙ ap conf (get_or-set_same b.parties p.0 e.party idle l)
  own (after.Pass k) t g =
      attend_conf b p.0 e (set (left b p.0 e) k.0 (next b p.0 e k)) p.0
      ∙ ap conf (get_or-set_other (left b p.0 e) k.0 p.0 (next b p.0 e k) idle (apart k g.0)
      ∙ get_or-set_same b.parties p.0 (change_control Idle e.party) idle l)
  own x t g = absurd g

  spoken : (x : After) (t : Bool) → Goes v x e.said.event → let a = followed x t b p.0 e in
      left_by v e.said.event e.said.byte ≡ left_by v a.event a.byte
  spoken after.Settle t g = refl
  spoken (after.Pass k) t g = ap (λ (x : Event). left_by v x e.said.byte) g.1
  spoken x t g = absurd g

pub configured_by_hearing : ConfiguredByHearing
configured_by_hearing b led p = cond-elim
    (λ (a : Answer). conf (here a.bus p.0) ≡ left_by v a.event a.byte)
    (is_accepted (m.verdict (lines b) b (call_of.Of p act_of.Step)))
    (λ ok. let l = fits b led p act_of.Step ok in
    own b p e l e.after t T.goes ∙ T.leaves ∙ spoken b p e l e.after t T.goes) (λ _. refl)
  where
    v : View
    v = m.view_at p (lines b) b

    e : Effect
    e = step (m.view_at p (lines b) b)

    t : Bool
    t = (lines b).atn

    T : Turned v e
    T = turned v (led_inv b led).pre.kind

pub reset_unconfigures : ResetUnconfigures
reset_unconfigures b led j = cond-elim
    (λ (a : Answer). a.verdict ≡ Ok tt → conf (here a.bus j) ≡ (None, false))
    (is_accepted (m.verdict (lines b) b c))
    (λ ok _. cond-elim
    (λ (o : Outcome). conf (here (followed o.after (lines b).atn b j (with_standing b.standing o)).bus j)
    ≡ (None, false)) (is_active (here b j))
    (λ _. attend_conf b j e (set b.parties j (wiped (here b j))) j ∙ ap conf (there ok (wiped (here b j))))
    (λ _. settle_conf b j e (lines b).atn (set b.parties j aside) j ∙ ap conf (there ok aside)))
    (λ bad h. no (cc))
  where
    e : Effect
    e = acted (m.view_at (place j) (lines b) b) act_of.Reset

    aside : Party
    aside = with_acceptor (reset_acceptor (lines b)) (wiped (here b j))

    c : Call
    c = call_of.Of (place j) act_of.Reset

    there : is_accepted (m.verdict (lines b) b c) ≡ true → (q : Party) → at (set b.parties j q) j ≡ q
    there ok q = get_or-set_same b.parties j q idle (fits b led (place j) act_of.Reset ok)
