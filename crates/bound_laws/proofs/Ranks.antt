-- How many turns an acceptor wants: before a byte can be put, and before the byte that stands can end. Each step takes
-- one of them.
-- Assumes nothing.
use mathlib.Core.Path.{◌≡◌, refl}
use mathlib.Core.Bool.{true, false}
use Prim.Native.Nat.{ℕ, ◌+◌, ◌-◌, ◌≤◌}
use native.Mathlib.Omega.{arith}
use native.Mathlib.Nat.{not-suc-le-zero}
use Rattle.std.specs.Prelude.{Option, Some, None}
use Rattle.party.specs.Driving.{dav_at, drives_dav, nrfd_at, ndac_at}
use Rattle.role.proofs.Logic.{no, test, cond-elim}
use Rattle.effect.specs.declared.View.{View}
use Rattle.effect.specs.declared.Effect.{Effect}
use Rattle.parties.proofs.Places.{some_true}
use Rattle.effect.specs.Stands.{stands}
use Rattle.acceptor_step.specs.AcceptorStep.{takes, acceptor_in}
use Rattle.bus.specs.declared.Bus.{Bus}
use Rattle.bus.specs.Record.{here, lines}
use Rattle.bus.specs.Delivery.{is_end}
use Rattle.bus.proofs.Invariant.{Inv}
use Rattle.bus.specs.Types.{Party, Source, Sids, Sgns, Sdys, Strs, Acceptor, Aids, Anrs, Acrs, Acds, Awns, Standing}

-- turns wanted before a byte can be put
abbrev acceptor_rank : Acceptor → ℕ
acceptor_rank Aids = 0
acceptor_rank Anrs = 1
acceptor_rank Acrs = 0
acceptor_rank Acds = 3
acceptor_rank Awns = 2

abbrev pub source_rank : Source → ℕ
source_rank Sids = 0
source_rank Sgns = 1
source_rank Sdys = 0
source_rank Strs = 0

abbrev pub rank : Party → ℕ
rank p = acceptor_rank p.acceptor + source_rank p.source

-- turns wanted before the byte that stands can end
abbrev acceptor_left : Acceptor → ℕ
acceptor_left Aids = 0
acceptor_left Anrs = 2
acceptor_left Acrs = 2
acceptor_left Acds = 1
acceptor_left Awns = 0

abbrev pub left : Party → ℕ
left p = acceptor_left p.acceptor

pub rank_top : (a : Acceptor) → acceptor_rank a ≤ 3
rank_top Aids = omega arith
rank_top a = omega arith

pub left_top : (a : Acceptor) → acceptor_left a ≤ 2
left_top Aids = omega arith
left_top a = omega arith

-- The acceptor step while nothing stands and there is room.
abbrev pub tick : Acceptor → Acceptor
tick Aids = Aids
tick Anrs = Acrs
tick Acrs = Acrs
tick Acds = Awns
tick Awns = Anrs

pub tick_rank : (a : Acceptor) → acceptor_rank (tick a) ≤ acceptor_rank a - 1
tick_rank Aids = omega arith
tick_rank a = omega arith

-- who takes part goes on taking part
pub tick_part : (a : Acceptor) → (a ≡ Aids → ⊥) → tick a ≡ Aids → ⊥
tick_part Aids h e = h refl
tick_part a h e = no (cc)

module _ (v : View) (t : v.lines.atn ≡ false) where
  -- while nothing stands
  pub tick_acceptor : v.lines.dav ≡ false → v.party.input ≡ None → (a : Acceptor) → v.party.acceptor ≡ a
      → (acceptor_in a v).party.acceptor ≡ tick a
  tick_acceptor d h Aids e = e
  tick_acceptor d h Anrs e = rw (t, h) refl
  tick_acceptor d h Acrs e = rw d e
  tick_acceptor d h Acds e = refl
  tick_acceptor d h Awns e = rw d refl

  pub tick_input : v.lines.dav ≡ false → v.party.input ≡ None → (a : Acceptor)
      → (acceptor_in a v).party.input ≡ None
  tick_input d h Anrs = rw (t, h) refl
  tick_input d h Acrs = rw d h
  tick_input d h Awns = rw d h
  tick_input d h a = h

  -- while a byte stands: nobody is in ANRS then
  tock_taken : (st : Option Standing) → stands st ≡ true → acceptor_left (takes st v).party.acceptor ≤ 1
  tock_taken None h = no (cc)
  tock_taken (Some st) h = rw t (omega arith)

  tock_took : (st : Option Standing) → stands st ≡ true → is_end (takes st v).said.event ≡ false
  tock_took None h = no (cc)
  tock_took (Some st) h = rw t refl

  module _ (d : v.lines.dav ≡ true) (up : stands v.standing ≡ true) where
    pub tock_left : (a : Acceptor) → v.party.acceptor ≡ a → (a ≡ Anrs → ⊥)
        → acceptor_left (acceptor_in a v).party.acceptor ≤ acceptor_left a - 1
    tock_left Aids h n = rw h (omega arith)
    tock_left Anrs h n = absurd (n refl)
    tock_left Acrs h n = cond-elim (λ (x : Effect). acceptor_left x.party.acceptor ≤ 1) v.lines.dav
        (λ _. tock_taken v.standing up) (λ f. no (cc))
    tock_left Acds h n = omega arith
    tock_left Awns h n = rw (d, h) (omega arith)

    pub tock_event : (a : Acceptor) → (a ≡ Anrs → ⊥) → is_end (acceptor_in a v).said.event ≡ false
    tock_event Anrs n = absurd (n refl)
    tock_event Acrs n = cond-elim (λ (x : Effect). is_end x.said.event ≡ false) v.lines.dav
        (λ _. tock_took v.standing up) (λ f. no (cc))
    tock_event Awns n = rw d refl
    tock_event a n = refl

-- Ranks and lines: who wants no turn holds no line, and who takes part and holds no NRFD holds NDAC.
pub no_rank_no_nrfd : (a : Acceptor) → acceptor_rank a ≤ 0 → nrfd_at a ≡ false
no_rank_no_nrfd Aids h = refl
no_rank_no_nrfd Acrs h = refl
no_rank_no_nrfd a h = absurd (not-suc-le-zero h)

pub none_left_no_ndac : (a : Acceptor) → acceptor_left a ≤ 0 → ndac_at a ≡ false
none_left_no_ndac Aids h = refl
none_left_no_ndac Awns h = refl
none_left_no_ndac a h = absurd (not-suc-le-zero h)

pub ready_holds_ndac : (a : Acceptor) → nrfd_at a ≡ false → (a ≡ Aids → ⊥) → ndac_at a ≡ true
ready_holds_ndac Aids e h = absurd (h refl)
ready_holds_ndac Awns e h = no (cc)
ready_holds_ndac a e h = refl

-- while nothing stands DAV is false
pub dav_off : (b : Bus) → Inv b → b.standing ≡ None → (lines b).dav ≡ false
dav_off b I n = test (lines b).dav (λ h. let r = some_true b.count drives_dav b.parties h in let z = I.pre.sends
    r.0 (in_strs (here b r.0).source r.1) in no (let y = rw n at z in cc)) (λ h. h)
  where
    in_strs : (s : Source) → dav_at s ≡ true → s ≡ Strs
    in_strs Strs e = refl
    in_strs s e = no (cc)
