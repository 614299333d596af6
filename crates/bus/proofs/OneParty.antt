-- Calls that change one party and let stand what stands: the summary, for a change that delivery does not see, and for
-- one of the acceptor.
-- Assumes nothing.
use mathlib.Core.Path.{◌≡◌, refl, sym, ap, ◌∙◌}
use mathlib.Core.Bool.{Bool, true, false, ◌&&◌}
use mathlib.Core.Logic.{inl}
use Prim.Native.Nat.{ℕ, ◌+◌, ◌<◌}
use Rattle.party.specs.Parts.{one, held_bytes, with_source}
use Rattle.party.specs.Driving.{is_active}
use Rattle.party.specs.Sending.{is_source, is_polled}
use Rattle.role.proofs.Logic.{no, cond-elim}
use Rattle.role.proofs.Roles.{name_of, Single, Weak, weak_same}
use Rattle.parties.specs.Places.{place}
use Rattle.bus.specs.Types.{Place, Party, Source, Strs, Aids, Anrs, Acrs, Bus, Said, Answer, Call, Verdict}
use Rattle.bus.specs.Types.ev
use Rattle.bus.specs.Types.call_of
use Rattle.bus.specs.Types.act_of
use Rattle.effect.specs.Calls.{is_accepted}
use Rattle.bus.specs.Record.{here, lines}
use Rattle.effect.specs.Stands.{stands}
use Rattle.effect.specs.Effects.{say, stay}
use Rattle.bus.specs.Settling.{settle}
use Rattle.bus.specs.Machine.{view_at, judged}
use Rattle.bus.specs.Delivery.{is_put, is_end, is_take, is_host_put, is_write, wrote}
use Rattle.bus.proofs.Invariant.{look, Inv, atn_of}
use Rattle.bus.proofs.Change.{Kept, weak_look}
use Rattle.bus.proofs.Summary.{Good, Becomes, Word, refused, kept_good}
use Rattle.std.specs.Prelude.{Ok, is_some}

-- A call's ruling: refused it changes nothing, and accepted it is as good as what it does.
pub ruled : (b : Bus) (c : Call) → Inv b → (r : Verdict) (a : Answer) → (is_accepted r ≡ true → Good b c a)
    → Good b c (judged r b a)
ruled b c I r a f = cond-elim (Good b c) (is_accepted r) f (λ e. refused b c r I (rw e (nothing (is_write c))))
  where
    nothing : (x : Bool) → one (x && false) ≡ 0
    nothing true = refl
    nothing false = refl

-- a call that only party i can have made a step by
abbrev pub Caller : Call → ℕ → Type 0
Caller c i = (j : ℕ) → c ≡ call_of.Of (place j) act_of.Step → j ≡ i

-- Delivery sees no change: role, control and acceptor are as they were, and so is being in STRS.
pub record Plain (p q : Party) : Type 0 where
  pub role : q.role ≡ p.role
  pub control : q.control ≡ p.control
  pub acceptor : q.acceptor ≡ p.acceptor
  pub input : is_some p.input ≡ false → is_some q.input ≡ false
  pub strs : q.source ≡ Strs → p.source ≡ Strs
  pub stst : p.source ≡ Strs → q.source ≡ Strs

-- The acceptor of a party that is no active one changes, and perhaps its flags: what the change keeps.
pub record Seated (b : Bus) (i : ℕ) (q : Party) : Type 0 where
  pub inactive : is_active (here b i) ≡ false
  pub name : name_of q.role ≡ name_of (here b i).role
  pub control : q.control ≡ (here b i).control
  pub source : q.source ≡ (here b i).source
  pub no_anrs : stands b.standing ≡ true → q.acceptor ≡ Anrs → ⊥
  pub others : atn_of b ≡ true → q.acceptor ≡ Aids → ⊥
  pub listens : atn_of b ≡ false → q.role.listen ≡ false → q.acceptor ≡ Aids
  pub joins : atn_of b ≡ false → q.role.listen ≡ true → q.acceptor ≡ Aids → ⊥
  pub apart : Single q.role
  pub empty : atn_of b ≡ false → q.acceptor ≡ Acrs → is_some q.input ≡ false
  pub polled : (here b i).source ≡ Strs → is_polled (atn_of b) q ≡ true → is_polled (atn_of b) (here b i) ≡ true
  pub polls : (here b i).source ≡ Strs → is_source (atn_of b) q ≡ true
      → (is_source (atn_of b) (here b i) ≡ true) × (is_polled (atn_of b) (here b i) ≡ true
      → is_polled (atn_of b) q ≡ true)
  pub claims : Weak (look b.standing i (here b i)) (look b.standing i q)

module _ (b : Bus) (c : Call) (I : Inv b) (i : ℕ) (l : i < b.count) where
  plain_kept : (q : Party) → Plain (here b i) q → Kept (atn_of b) b.standing (here b i) q
  plain_kept q H = record {
    name = ap name_of H.role;
    act = rw H.control;
    ctl = λ e. rw H.control at e;
    strs = H.strs;
    stst = H.stst;
    no_anrs = λ s e. I.pre.no_anrs s i (sym H.acceptor ∙ e);
    active = λ e. H.acceptor ∙ I.pre.active i e;
    others = λ t a e. I.pre.others t i l a (sym H.acceptor ∙ e);
    listens = λ t e. H.acceptor ∙ I.pre.listens t i (rw H.role at e);
    joins = λ t e f. I.pre.joins t i (rw H.role at e) (sym H.acceptor ∙ f);
    apart = rw H.role (I.pre.apart i);
    empty = λ t e. H.input (I.pre.empty t i (sym H.acceptor ∙ e));
    polled = λ _ e. rw H.role at e;
    polls = λ _ e. (rw (H.role, H.control) at e, λ f. rw H.role f);
  }

  pub plain_good : (s : Said) (q : Party) → Plain (here b i) q → Caller c i
      → is_put s.event ≡ false → is_end s.event ≡ false → is_take s.event ≡ false
      → wrote c (Ok tt) + held_bytes (here b i) ≡ one (is_host_put s.event) + s.dropped + held_bytes q
      → Becomes b c i s q
  plain_good s q H k ip ie it w = kept_good b c I i l s q (plain_kept q H)
      (weak_look (here b) b.standing i q (weak_same (look b.standing i (here b i)) (look b.standing i q)
      (rw (H.role, H.acceptor))) I.pre.heard)
      (record {
        not_put = ip;
        not_end = ie;
        acct = w;
        caller = k;
        takes = λ h. no (cc);
        silent = λ e f. let z = H.acceptor in no (cc);
        rejoin = λ h e. sym H.acceptor ∙ e;
        leaves = λ h e. inl (H.acceptor ∙ e);
      })

  pub seated_good : (s : Said) (q : Party) → Seated b i q → Word b c i s q
      → Becomes b c i s q
  seated_good s q S W = kept_good b c I i l s q
      (record {
        name = S.name;
        act = rw S.control;
        ctl = λ e. rw S.control at e;
        strs = λ e. sym S.source ∙ e;
        stst = λ e. S.source ∙ e;
        no_anrs = S.no_anrs;
        active = λ e. let z = S.inactive in no (cc);
        others = λ t a. S.others t;
        listens = S.listens;
        joins = S.joins;
        apart = S.apart;
        empty = S.empty;
        polled = S.polled;
        polls = S.polls;
      })
      (weak_look (here b) b.standing i q S.claims I.pre.heard)
      W

pub plain_same : (p : Party) → Plain p p
plain_same p = record { role = refl; control = refl; acceptor = refl; input = λ e. e; strs = λ e. e; stst = λ e. e }

pub plain_source : (p q : Party) (s : Source) → Plain p q → (s ≡ Strs → ⊥) → (p.source ≡ Strs → ⊥)
    → Plain p (with_source s q)
plain_source p q s H f g = record {
  role = H.role;
  control = H.control;
  acceptor = H.acceptor;
  input = H.input;
  strs = λ e. absurd (f e);
  stst = λ e. absurd (g e);
}

module _ (b : Bus) (I : Inv b) (p : Place) (l : p.0 < b.count) where
  pub step_caller : Caller (call_of.Of p act_of.Step) p.0
  step_caller j e = cc

  pub stay_good : Good b (call_of.Of p act_of.Step) (settle (atn_of b) b p.0 (stay (view_at p (lines b) b)))
  stay_good = plain_good b (call_of.Of p act_of.Step) I p.0 l (say ev.None 0 false 0) (here b p.0)
      (plain_same (here b p.0)) step_caller refl refl refl refl
