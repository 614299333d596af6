-- A step changes one party: on a bus that has settled, settling touches no other.
-- Assumes nothing.
use mathlib.Core.Path.{◌≡◌, refl, ap, ◌∙◌}
use mathlib.Core.Bool.{true, false, not, ◌||◌}
use mathlib.Core.List.{List, [], ◌∷◌}
use Prim.Native.Nat.{ℕ, zero, suc, ◌<◌}
use native.Mathlib.Omega.{arith}
use native.Mathlib.Nat.{not-suc-le-zero, le_of_suc-le-suc}
use lib.Dec.{ltb}
use lib.ListN.{length, set}
use lib.Seq.{get_or-set_same, get_or-set_other}
use borrow.Author.Tests.{lt-ltb}
use Rattle.std.specs.Prelude.{Option, Some, None, is_some}
use Rattle.party.specs.Parts.{idle}
use Rattle.party.specs.Driving.{is_active}
use Rattle.party.specs.Sending.{is_source}
use Rattle.party.specs.Settling.{settled}
use Rattle.role.proofs.Logic.{no, test, cond-elim}
use Rattle.parties.specs.Places.{place, at, each}
use Rattle.parties.proofs.Places.{each_still, some_set}
use Rattle.effect.specs.Effects.{does}
use Rattle.source_step.specs.SourceStep.{source_step}
use Rattle.acceptor_step.specs.AcceptorStep.{takes, acceptor_in, acceptor_step}
use Rattle.accepted.specs.Accepted.{step}
use Rattle.bus.specs.Record.{here, lines, refuse}
use Rattle.bus.specs.Settling.{answered, deserted, settle, follow}
use Rattle.bus.specs.Machine as m
use Rattle.bus.proofs.Invariant.{Inv, atn_of}
use Rattle.bus.proofs.EachCall.{call_good}
use Rattle.bus.proofs.Reached.{sender_is_source}
use Rattle.bus.specs.declared.Bus.{Bus}
use Rattle.bus.specs.declared.Answer.{Answer}
use Rattle.bus.specs.Types.{Party, Acceptor, Anrs, Acrs, Awns, Standing, Effect, Said, View}
use Rattle.bus.specs.Types.after
use Rattle.bus.specs.Types.ruling
use Rattle.runner.specs.Runner.{step_of}

each_set : (n : ℕ) (f : Party → Party) (ps : List Party) (i : ℕ) (q : Party) → i < n → ((j : ℕ) → f (at ps j) ≡ at ps j)
    → each n f (set ps i q) ≡ set ps i (f q)
each_set zero f ps i q l h = absurd (not-suc-le-zero l)
each_set (suc n) f [] i q l h = refl
each_set (suc n) f (p ∷ ps) zero q l h = rw (each_still n f ps (λ j. h (suc j))) refl
each_set (suc n) f (p ∷ ps) (suc i) q l h = rw (h 0, each_set n f ps i q (le_of_suc-le-suc l) (λ j. h (suc j))) refl

-- the answer of a call that changes party i alone, and may change what stands
abbrev pub local : Bus → ℕ → Said → Party → Option Standing → Answer
local b i s q st = answered false s (record b { parties = set b.parties i (settled (atn_of b) q); standing = st })

module _ (b : Bus) (I : Inv b) (i : ℕ) (l : i < b.count) where
  room : i < length b.parties
  room = let z = I.size in let s = I.small in omega arith

  pub touch_local : (s : Said) (q : Party) (st : Option Standing) → deserted (atn_of b) (set b.parties i q) st ≡ false
      → settle (atn_of b) b i (does s q st) ≡ local b i s q st
  touch_local s q st ok = rw (ok, each_set b.count (settled (atn_of b)) b.parties i q l I.still) refl

  pub set_here : (q : Party) → at (set b.parties i q) i ≡ q
  set_here q = get_or-set_same b.parties i q idle room

  -- what stands is not deserted where its sender, another party, is a source still
  pub not_deserted : (st : Option Standing) → b.standing ≡ st → (q : Party) → is_source (atn_of b) (here b i) ≡ false
      → deserted (atn_of b) (set b.parties i q) st ≡ false
  not_deserted None e q ns = refl
  not_deserted (Some st) e q ns = rw (get_or-set_other b.parties i st.sender.0 q idle other, source) refl
    where
      source : is_source (atn_of b) (here b st.sender.0) ≡ true
      source = sender_is_source b I st.sender st.kind st.value st.end e

      other : st.sender.0 ≡ i → ⊥
      other h = let y = ap (λ (j : ℕ). is_source (atn_of b) (here b j)) h in let z = source in no (cc)

  -- what such a call leaves as it was
  module _ (s : Said) (q : Party) (st : Option Standing) where
    pub local_other : (j : ℕ) → (j ≡ i → ⊥) → here (local b i s q st).bus j ≡ here b j
    local_other j ne = get_or-set_other b.parties i j (settled (atn_of b) q) idle ne

    pub local_same : here (local b i s q st).bus i ≡ settled (atn_of b) q
    local_same = set_here (settled (atn_of b) q)

    pub local_atn : is_active q ≡ is_active (here b i) → atn_of (local b i s q st).bus ≡ atn_of b
    local_atn e = some_set b.count is_active b.parties i (settled (atn_of b) q) e

-- a step of a party that is there is accepted
pub call_step : (b : Bus) → Inv b → (i : ℕ) → i < b.count
    → m.call b (step_of i) ≡ follow (atn_of b) b i (step (m.view_at (place i) (lines b) b))
call_step b I i l = let s = I.small in rw (lt-ltb i 15 (omega arith), lt-ltb i b.count l) refl

-- a step of no party is refused
pub no_step : (b : Bus) (i : ℕ) → ltb i b.count ≡ false → m.call b (step_of i) ≡ refuse ruling.NoParty b
no_step b i h = test (ltb i 15) (λ t. rw (t, h) refl) (λ f. rw f refl)

-- a source takes the source step
pub source_step_lem : (b : Bus) → Inv b → (i : ℕ) → i < b.count → is_source (atn_of b) (here b i) ≡ true
    → m.call b (step_of i) ≡ follow (atn_of b) b i (source_step (m.view_at (place i) (lines b) b))
source_step_lem b I i l so = call_step b I i l ∙ rw so refl

-- An acceptor step is followed by settling alone, lets stand what stands, changes no control, and makes no source: who
-- hears does so under ATN, where talk makes none.
record Calm (v : View) (e : Effect) : Type 0 where
  follows : e.after ≡ after.Settle
  standing : e.standing ≡ v.standing
  control : is_active e.party ≡ is_active v.party
  source : is_source v.lines.atn e.party ≡ is_source v.lines.atn v.party

module _ (v : View) where
  -- a step that leaves control and flags
  calm_move : (s : Said) (q : Party) → q.control ≡ v.party.control → q.role ≡ v.party.role
      → Calm v (does s q v.standing)
  calm_move s q c r = record { follows = refl; standing = refl; control = rw c refl; source = rw (c, r) refl }

  calm_takes : (st : Option Standing) → Calm v (takes st v)
  calm_takes None = calm_move _ _ refl refl
  calm_takes (Some st) = cond-elim (Calm v) v.lines.atn
      (λ t. record { follows = refl; standing = refl; control = refl; source = rw t refl })
      (λ _. calm_move _ _ refl refl)

  calm_step : (a : Acceptor) → Calm v (acceptor_in a v)
  calm_step Anrs = cond-elim (Calm v) (v.lines.atn || not (is_some v.party.input))
      (λ _. calm_move _ _ refl refl) (λ _. calm_move _ _ refl refl)
  calm_step Acrs = cond-elim (Calm v) v.lines.dav (λ _. calm_takes v.standing) (λ _. calm_move _ _ refl refl)
  calm_step Awns = cond-elim (Calm v) v.lines.dav (λ _. calm_move _ _ refl refl) (λ _. calm_move _ _ refl refl)
  calm_step a = calm_move _ _ refl refl

-- party i takes the acceptor step
abbrev pub Accepts : Bus → ℕ → Type 0
Accepts b i = (i < b.count) × (is_source (atn_of b) (here b i) ≡ false)

-- the effect of its step
abbrev pub acts : Bus → ℕ → Effect
acts b i = acceptor_step (m.view_at (place i) (lines b) b)

module _ (b : Bus) (I : Inv b) (i : ℕ) (A : Accepts b i) where
  calm : Calm (m.view_at (place i) (lines b) b) (acts b i)
  calm = calm_step (m.view_at (place i) (lines b) b) (here b i).acceptor

  pub as_local : m.call b (step_of i) ≡ local b i (acts b i).said (acts b i).party b.standing
  as_local = call_step b I i A.0
      ∙ rw (A.1, calm.follows, calm.standing)
      (touch_local b I i A.0 (acts b i).said (acts b i).party b.standing
      (not_deserted b I i A.0 b.standing refl (acts b i).party A.1))

  pub atn_kept : atn_of (m.call b (step_of i)).bus ≡ atn_of b
  atn_kept = rw as_local (local_atn b I i A.0 (acts b i).said (acts b i).party b.standing calm.control)

  pub standing_kept : (m.call b (step_of i)).bus.standing ≡ b.standing
  standing_kept = rw as_local refl

  pub system_kept : (m.call b (step_of i)).bus.system ≡ b.system
  system_kept = rw as_local refl

  pub other_kept : (j : ℕ) → (j ≡ i → ⊥) → here (m.call b (step_of i)).bus j ≡ here b j
  other_kept j ne = rw as_local (local_other b I i A.0 (acts b i).said (acts b i).party b.standing j ne)

  pub own_next : here (m.call b (step_of i)).bus i ≡ settled (atn_of b) (acts b i).party
  own_next = rw as_local (local_same b I i A.0 (acts b i).said (acts b i).party b.standing)

  pub still_no_source : is_source (atn_of (m.call b (step_of i)).bus) (here (m.call b (step_of i)).bus i) ≡ false
  still_no_source = rw (atn_kept, own_next) (calm.source ∙ A.1)

  pub event_of : (m.call b (step_of i)).event ≡ (acts b i).said.event
  event_of = rw as_local refl

  pub broken_of : (m.call b (step_of i)).broken ≡ 0
  broken_of = rw as_local refl

  pub inv_kept : Inv (m.call b (step_of i)).bus
  inv_kept = (call_good b I (step_of i)).inv
