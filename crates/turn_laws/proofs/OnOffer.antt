-- A source that has said noacc stays in SDYS as long as its byte is on offer and nobody is there, whatever calls come.
-- Assumes nothing.
use mathlib.Core.Path.{◌≡◌, refl, sym, ap, ◌∙◌, subst}
use mathlib.Core.Bool.{Bool, true, false, not, ◌&&◌}
use mathlib.Core.List.{List, [], ◌∷◌}
use Prim.Native.Nat.{ℕ, zero, suc, ◌+◌, ◌-◌, ◌≤◌, ◌<◌}
use native.Mathlib.Omega.{arith}
use native.Mathlib.Nat.{not-suc-le-zero, le_of_suc-le-suc}
use lib.ListN.{length, get_or, set, length-set}
use lib.Seq.{get_or-set_same, get_or-set_other}
use lib.Dec.{eqb}
use borrow.Author.Tests.{eqb-true, eqb-false}
use Rattle.std.specs.Prelude.{Option, Some, None, Ok, Err}
use Rattle.offer.specs.Offer.{kind_of, byte}
use Rattle.role.proofs.Logic.{no, test, cond-elim}
use Rattle.party.specs.Parts.{idle}
use Rattle.party.specs.Driving.{is_active}
use Rattle.party.specs.Sending.{is_source, is_polled}
use Rattle.party.specs.Settling.{attended, settled, change_control, cleared, wiped}
use Rattle.parties.specs.Places.{at, some, each}
use Rattle.parties.proofs.Places.{each_below, length_each, set_part, some_at, some_each}
use Rattle.effect.specs.Calls.{is_accepted, place_of}
use Rattle.effect.specs.Effects.{with_standing}
use Rattle.refusals.specs.Refusals.{in_standby, own}
use Rattle.host_calls.specs.HostCalls.{read_out, reset_as}
use Rattle.accepted.specs.Accepted.{effect_of}
use Rattle.bus.specs.declared.Bus.{Bus}
use Rattle.bus.specs.declared.Answer.{Answer}
use Rattle.bus.specs.Types.{Place, Party, Control, Standby, Active, Sdys, Byte, Kind}
use Rattle.bus.specs.Types.{Command, Standing, Said, Outcome, Effect, Call, Act}
use Rattle.bus.specs.Types.ruling
use Rattle.bus.specs.Types.call_of
use Rattle.bus.specs.Types.act_of
use Rattle.bus.specs.Record.{here, lines, accept}
use Rattle.bus.specs.Settling.{attend, settle, followed}
use Rattle.bus.specs.Machine as m
use Rattle.bus.specs.Delivery.{Moment, history, moment, bus_at, answer_at}
use Rattle.bus.proofs.Invariant.{Inv, atn_of, active_busy}
use Rattle.bus.proofs.Accepting.{known, if_so}
use Rattle.bus.proofs.Reached.{source_not_sids}
use Rattle.bus.proofs.EachCall.{call_good, linked}
use Rattle.runner.proofs.Led.{led_inv}
use Rattle.turn_laws.specs.Turns.{Alone, OnOffer, Unattended, SaysAgain}
use Rattle.turn_laws.proofs.Local.{call_step}
use Rattle.turn_laws.proofs.Noacc.{says, turn, only}

no_polled : (t y : Bool) → (not t && false && y) ≡ false
no_polled true y = refl
no_polled false y = refl

no_talker : (t : Bool) → (not t && false) ≡ false
no_talker true = refl
no_talker false = refl

-- who is not active offers no command
not_command : (y : Bool) → kind_of false y ≡ Command → ⊥
not_command true h = no (cc)
not_command false h = no (cc)

standby_not_active : (c : Control) → in_standby c ≡ true → c ≡ Standby
standby_not_active Standby h = refl
standby_not_active c h = no (cc)

module _ (b : Bus) (I : Inv b) (p v : ℕ) (e : Bool) (k : Kind) (O : OnOffer b p v e k) (U : Unattended b)
    (S : (here b p).source ≡ Sdys) where
  alone : Alone b p v e
  alone = record {
    there = O.there;
    source = O.source;
    ready = S;
    offers = O.offers;
    quiet = U.0;
    nobody = U.1;
  }

  fits : b.count ≤ length b.parties
  fits = let z = I.size in let s = I.small in omega arith

  -- on the bus of answer a party p is still in SDYS
  abbrev Stays : Answer → Type 0
  Stays a = Inv a.bus → OnOffer a.bus p v e k → (here a.bus p).source ≡ Sdys

  -- settling alone follows, and the caller's source is as it was
  settle_stays : (i : ℕ) (x : Effect) → x.party.source ≡ (here b i).source → Stays (settle (atn_of b) b i x)
  settle_stays i x same K P = test (is_source (atn_of b) q)
      (λ h. ap (λ (r : Party). r.source) seen ∙ rw (h, stays) refl)
      (λ h. absurd (source_not_sids (settle (atn_of b) b i x).bus K p P.source
      (ap (λ (r : Party). r.source) seen ∙ rw h refl)))
    where
      q : Party
      q = at (set b.parties i x.party) p

      stays : q.source ≡ Sdys
      stays = set_part (λ (r : Party). r.source) b.parties i x.party same p ∙ S

      seen : here (settle (atn_of b) b i x).bus p ≡ settled (atn_of b) q
      seen = each_below b.count (settled (atn_of b)) (set b.parties i x.party) p O.there
          (rw length-set fits)

  -- attention follows: what is on offer then is what party p has among ps
  module _ (s : Said) (ps : List Party) (st : Option Standing) (len : length ps ≡ length b.parties) where
    abbrev t : Bool
    t = some b.count is_active ps

    abbrev now : Bus
    now = (attend b s ps st).bus

    now_atn : (lines now).atn ≡ t
    now_atn = some_each b.count is_active (settled t) (each b.count (attended t) ps) (λ r. refl)
        ∙ some_each b.count is_active (attended t) ps (λ r. refl)

    now_here : here now p ≡ settled t (attended t (at ps p))
    now_here = each_below b.count (settled t) (each b.count (attended t) ps) p O.there
        (rw (length_each, len) fits)
        ∙ ap (settled t) (each_below b.count (attended t) ps p O.there (rw len fits))

    pub still_source : OnOffer now p v e k → is_source t (at ps p) ≡ true
    still_source P = sym (ap (λ (r : Party). is_source t r) now_here) ∙ ap (λ (x : Bool). is_source x (here now p))
        (sym now_atn) ∙ P.source

    pub still_kind : OnOffer now p v e k → kind_of (is_active (at ps p)) (is_polled t (at ps p)) ≡ k
    still_kind P = sym (ap (λ (r : Party). kind_of (is_active r) (is_polled t r)) now_here)
        ∙ ap (λ (x : Bool). kind_of (is_active (here now p)) (is_polled x (here now p))) (sym now_atn) ∙ P.kind

    pub still_offer : OnOffer now p v e k → is_polled t (at ps p) ≡ false → (at ps p).held ≡ Some (byte v e)
    still_offer P h = sym (rw (now_atn, now_here, h) refl) ∙ P.offers

  -- the caller becomes active
  take_stays : (i : ℕ) → i < b.count → (here b i).control ≡ Standby → (s : Said) (st : Option Standing)
      → Stays (attend b s (set b.parties i (change_control Active (here b i))) st)
  take_stays i l c s st _ P = absurd (test (eqb p i) (λ h. same (eqb-true p i h)) (λ h. other (eqb-false p i h)))
    where
      ps : List Party
      ps = set b.parties i (change_control Active (here b i))

      len : length ps ≡ length b.parties
      len = length-set b.parties i (change_control Active (here b i))

      new : at ps i ≡ change_control Active (here b i)
      new = get_or-set_same b.parties i (change_control Active (here b i)) idle (omega (arith, fits))

      same : p ≡ i → ⊥
      same h =
          let n : is_active (here b p) ≡ false = rw (h, c) refl in
          not_command (is_polled (atn_of b) (here b p)) (sym (rw n refl) ∙ O.kind ∙ sym (still_kind s ps st len P)
          ∙ rw (h, new) refl)

      other : (p ≡ i → ⊥) → ⊥
      other ne = test (is_active (here b p))
          (λ h. ne (I.pre.charge p i (active_busy (here b p) h) (rw c refl)))
          (λ h. let z = still_source s ps st len P in
          let a = some_at b.count is_active ps refl i l (rw new refl) in
          let q = get_or-set_other b.parties i p (change_control Active (here b i)) idle ne in
          let y : is_source (some b.count is_active ps) (at ps p) ≡ false = rw (a, q, h) refl in no (cc))

  -- the caller stops being active
  leave_stays : (i : ℕ) → i < b.count → is_active (here b i) ≡ true → (q : Party) → is_active q ≡ false → (s : Said)
      (st : Option Standing) → Stays (attend b s (set b.parties i q) st)
  leave_stays i l c q n s st _ P = absurd (test (eqb p i) (λ h. same (eqb-true p i h)) (λ h. other (eqb-false p i h)))
    where
      ps : List Party
      ps = set b.parties i q

      len : length ps ≡ length b.parties
      len = length-set b.parties i q

      same : p ≡ i → ⊥
      same h =
          let a = get_or-set_same b.parties i q idle (omega (arith, fits)) in
          not_command (is_polled (some b.count is_active ps) q)
          (sym (rw (h, a, n) refl) ∙ still_kind s ps st len P ∙ sym O.kind ∙ rw (h, c) refl)

      other : (p ≡ i → ⊥) → ⊥
      other ne = test (is_active (here b p))
          (λ h. ne (I.pre.charge p i (active_busy (here b p) h) (active_busy (here b i) c)))
          (λ h. let z = O.source in let a = I.pre.atn_if i c in
          let y : is_source (atn_of b) (here b p) ≡ false = rw (a, h) refl in no (cc))

  -- interface clear
  clear_stays : (i : ℕ) → i < b.count → (s : Said) (st : Option Standing) → Stays (attend b s
      (set (each b.count cleared b.parties) i (change_control Active (cleared (here b i)))) st)
  clear_stays i l s st _ P = absurd (test (eqb p i) (λ h. same (eqb-true p i h)) (λ h. other (eqb-false p i h)))
    where
      new : Party
      new = change_control Active (cleared (here b i))

      all : List Party
      all = each b.count cleared b.parties

      ps : List Party
      ps = set all i new

      len : length ps ≡ length b.parties
      len = length-set all i new ∙ length_each b.count cleared b.parties

      same : p ≡ i → ⊥
      same h =
          let a = get_or-set_same all i new idle
          (rw (length_each b.count cleared b.parties) (omega (arith, fits))) in
          let z = still_offer s ps st len P (rw (h, a) (no_polled (some b.count is_active ps) _)) in
          let y : (at ps p).held ≡ None = rw (h, a) refl in no (cc)

      other : (p ≡ i → ⊥) → ⊥
      other ne =
          let a = get_or-set_other all i p new idle ne ∙ each_below b.count cleared b.parties p O.there fits in
          let z = still_source s ps st len P in
          let y : is_source (some b.count is_active ps) (at ps p) ≡ false = rw a
          (no_talker (some b.count is_active ps)) in no (cc)

  read_stays : (i : ℕ) (x : Option Byte) → let z = with_standing b.standing (read_out x (here b i)) in
      Stays (followed z.after (atn_of b) b i z)
  read_stays i None = settle_stays i (with_standing b.standing (read_out None (here b i))) refl
  read_stays i (Some y) = settle_stays i (with_standing b.standing (read_out (Some y) (here b i))) refl

  abbrev does : Place → Act → Effect
  does i a = effect_of (m.view_at i (lines b) b) (call_of.Of i a)

  -- an accepted call of a party that is there
  party_stays : (i : Place) (a : Act) → is_accepted (own (m.view_at i (lines b) b) a) ≡ true → i.0 < b.count
      → Stays (m.accepted (lines b) b (call_of.Of i a))
  party_stays i act_of.Step ok l = λ _ _. ap (λ (a : Answer). (here a.bus p).source) (sym (call_step b I i.0 l))
      ∙ ap (λ (x : Bus). (here x p).source) (turn b I p v e alone i.0) ∙ S
  party_stays i act_of.Read ok l = read_stays i.0 (here b i.0).input
  party_stays i act_of.TakeControl ok l = take_stays i.0 l (standby_not_active (here b i.0).control
      (if_so (in_standby (here b i.0).control) (Ok tt) (Err ruling.Role) refl ok).0)
      (does i act_of.TakeControl).said b.standing
  party_stays i act_of.GoToStandby ok l = leave_stays i.0 l
      (if_so (is_active (here b i.0)) _ (Err ruling.Role) refl ok).0 (change_control Standby (here b i.0)) refl
      (does i act_of.GoToStandby).said b.standing
  party_stays i act_of.InterfaceClear ok l = clear_stays i.0 l (does i act_of.InterfaceClear).said b.standing
  party_stays i act_of.Reset ok l = cond-elim
      (λ (o : Outcome). let z = with_standing b.standing o in Stays (followed z.after (atn_of b) b i.0 z))
      (is_active (here b i.0))
      (λ h. leave_stays i.0 l h (wiped (here b i.0)) refl (does i act_of.Reset).said b.standing)
      (λ h. settle_stays i.0 (with_standing b.standing (reset_as false (m.view_at i (lines b) b))) refl)
  party_stays i a ok l = settle_stays i.0 (does i a) refl

  -- any call
  call_stays : (c : Call) → Stays (m.call b c)
  call_stays (call_of.Of i a) = cond-elim Stays (is_accepted (m.verdict (lines b) b (call_of.Of i a)))
      (λ ok. let h = known b i (own (m.view_at i (lines b) b) a) ok in party_stays i a h.1 h.0)
      (λ _ _ _. S)
  call_stays c = settle_stays 0 (effect_of (m.view_at (place_of c) (lines b) b) c) refl

-- every call of a list finds a bus that keeps the invariant, and has the machine's answer
all_calls : (b : Bus) → Inv b → (cs : List Call) (d : Moment) (k : ℕ) → k < length cs
    → let x = get_or (history b cs) k d in Inv x.before × (x.answer ≡ m.call x.before x.call)
all_calls b I [] d k h = absurd (not-suc-le-zero h)
all_calls b I (c ∷ cs) d zero h = (I, refl)
all_calls b I (c ∷ cs) d (suc k) h = all_calls (m.call b c).bus (call_good b I c).inv cs d k (le_of_suc-le-suc h)

pub says_again : SaysAgain
says_again b led cs p v e k i l ci ni il ll on cl =
    let A = finds l ll in
    let o = on l il (omega arith) in
    A.1 ∙ ap (m.call (bus_at b cs l)) cl
    ∙ says (bus_at b cs l) A.0 p v e (alone (bus_at b cs l) A.0 p v e k o.0 o.1
    (reaches (l - i) l (omega arith) (omega arith)))
  where
    past : Moment
    past = record { before = b; call = call_of.Lines; answer = accept b }

    finds : (j : ℕ) → j < length cs
        → Inv (bus_at b cs j) × (answer_at b cs j ≡ m.call (bus_at b cs j) (moment b cs j).call)
    finds = all_calls b (led_inv b led) cs past

    InSdys : ℕ → Type 0
    InSdys j = (here (bus_at b cs j) p).source ≡ Sdys

    begins : InSdys i
    begins = let A = finds i (omega arith) in
        (only (bus_at b cs i) A.0 p (sym (ap (λ (a : Answer). a.event) (A.1 ∙ ap (m.call (bus_at b cs i)) ci)) ∙ ni)
        ).2.ready

    goes_on : (j : ℕ) → i ≤ j → suc j ≤ l → InSdys j → InSdys (suc j)
    goes_on j ij jl S =
        let A = finds j (omega arith) in
        let o = on j ij (omega arith) in
        let q = linked b cs past j (omega arith) ∙ ap (λ (a : Answer). a.bus) A.1 in
        let K = (finds (suc j) (omega arith)).0 in
        let P = (on (suc j) (omega arith) jl).0 in
        ap (λ (x : Bus). (here x p).source) q
        ∙ call_stays (bus_at b cs j) A.0 p v e k o.0 o.1 S (moment b cs j).call
        (subst Inv q K) (subst (λ (x : Bus). OnOffer x p v e k) q P)

    reaches : (n j : ℕ) → j ≡ i + n → j ≤ l → InSdys j
    reaches zero j h jl = let z : j ≡ i = omega arith in subst InSdys (sym z) begins
    reaches (suc n) j h jl = let z : suc (i + n) ≡ j = omega arith in
        subst InSdys z (goes_on (i + n) (omega arith) (omega arith) (reaches n (i + n) refl (omega arith)))
