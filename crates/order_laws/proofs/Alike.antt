-- What a turn of a party that is no source reads and leaves.
-- Assumes nothing.
use mathlib.Core.Path.{◌≡◌, refl, sym, ap, ◌∙◌}
use mathlib.Core.Bool.{Bool, false}
use mathlib.Core.Logic.{◌⊎◌, inl, inr}
use Prim.Native.Nat.{ℕ}
use lib.Dec.{eqb, ltb}
use borrow.Author.Tests.{eqb-true, eqb-false, ltb-true}
use Rattle.std.specs.Prelude.{Option, Some, None}
use Rattle.party.specs.Sending.{is_source}
use Rattle.party.specs.Settling.{settled}
use Rattle.role.proofs.Logic.{test}
use Rattle.parties.specs.Places.{place}
use Rattle.effect.specs.Stands.{stands}
use Rattle.acceptor_step.specs.AcceptorStep.{takes, acceptor_in, acceptor_step}
use Rattle.bus.specs.declared.Bus.{Bus}
use Rattle.bus.specs.Types.{Acceptor, Anrs, Acrs, Awns, Standing, Effect, Party, View}
use Rattle.bus.specs.Record.{here, lines}
use Rattle.bus.specs.Settling.{answered}
use Rattle.bus.specs.Rows.{report_of}
use Rattle.bus.specs.Machine as m
use Rattle.bus.proofs.Invariant.{Inv, atn_of}
use Rattle.bus.proofs.EachCall.{call_good}
use Rattle.runner.specs.Runner.{step_of}
use Rattle.runner.proofs.Lists.{call_count}
use Rattle.turn_laws.proofs.Local.{Accepts, acts, as_local, no_step, atn_kept, standing_kept, system_kept, other_kept}
use Rattle.turn_laws.proofs.Local.{own_next, still_no_source}
use Rattle.state_laws.proofs.States.{states}
use Rattle.order_laws.specs.Orders.{NoSource, after_turn}

-- an acceptor step reads its party, what stands, ATN and DAV
module _ (v w : View) (p : v.party ≡ w.party) (st : v.standing ≡ w.standing)
    (t : v.lines.atn ≡ w.lines.atn) (d : v.lines.dav ≡ w.lines.dav) where
  reads_taking : (s : Option Standing) → takes s v ≡ takes s w
  reads_taking None = rw (p, st) refl
  reads_taking (Some x) = rw (p, st, t) refl

  reads_in : (a : Acceptor) → acceptor_in a v ≡ acceptor_in a w
  reads_in Anrs = rw (p, st, t) refl
  reads_in Acrs = rw (reads_taking v.standing, st, d, p) refl
  reads_in Awns = rw (p, st, d) refl
  reads_in a = rw (p, st) refl

  reads : acceptor_step v ≡ acceptor_step w
  reads = reads_in v.party.acceptor ∙ ap (λ (q : Party). acceptor_in q.acceptor w) p

pub inv_after : (b : Bus) → Inv b → (k : ℕ) → Inv (after_turn b k)
inv_after b I k = (call_good b I (step_of k)).inv

-- A party that is no source takes the acceptor step, or there is none and its turn is refused.
abbrev Turn : Bus → ℕ → Type 0
Turn b k = Accepts b k ⊎ (ltb k b.count ≡ false)

turn : (b : Bus) (k : ℕ) → NoSource b k → Turn b k
turn b k n = test (ltb k b.count) (λ h. inl (ltb-true k b.count h, n)) (λ h. inr h)

-- What no acceptor step changes is the same on two buses.
pub record Around (b c : Bus) : Type 0 where
  pub atn : atn_of b ≡ atn_of c
  pub standing : b.standing ≡ c.standing
  pub count : b.count ≡ c.count
  pub system : b.system ≡ c.system

pub around_same : (b : Bus) → Around b b
around_same b = record { atn = refl; standing = refl; count = refl; system = refl }

pub around_trans : (b c d : Bus) → Around b c → Around c d → Around b d
around_trans b c d A B = record {
  atn = A.atn ∙ B.atn;
  standing = A.standing ∙ B.standing;
  count = A.count ∙ B.count;
  system = A.system ∙ B.system;
}

around_sym : (b c : Bus) → Around b c → Around c b
around_sym b c A = record { atn = sym A.atn; standing = sym A.standing; count = sym A.count; system = sym A.system }

-- All that a turn of party k can read is the same on two buses.
pub record Alike (k : ℕ) (b c : Bus) : Type 0 where
  pub party : here b k ≡ here c k
  pub around : Around b c

pub alike_same : (k : ℕ) (b : Bus) → Alike k b b
alike_same k b = record { party = refl; around = around_same b }

pub alike_trans : (k : ℕ) (b c d : Bus) → Alike k b c → Alike k c d → Alike k b d
alike_trans k b c d A B = record {
  party = A.party ∙ B.party;
  around = around_trans b c d A.around B.around;
}

-- A turn of party x, which is no source: what it leaves as it was, who else is as before, and who is a source then.
module _ (b : Bus) (I : Inv b) (x : ℕ) (n : NoSource b x) where
  pub around_after : Around (after_turn b x) b
  around_after = go (turn b x n)
    where
      go : Turn b x → Around (after_turn b x) b
      go (inl A) = record {
        atn = atn_kept b I x A;
        standing = standing_kept b I x A;
        count = call_count b (step_of x);
        system = system_kept b I x A;
      }
      go (inr h) = rw (after_turn, no_step b x h) (around_same b)

  pub alike_other : (k : ℕ) → (k ≡ x → ⊥) → Alike k (after_turn b x) b
  alike_other k ne = record { party = go (turn b x n); around = around_after }
    where
      go : Turn b x → here (after_turn b x) k ≡ here b k
      go (inl A) = other_kept b I x A k ne
      go (inr h) = rw (after_turn, no_step b x h) refl

  pub source_kept : (k : ℕ) → is_source (atn_of (after_turn b x)) (here (after_turn b x) k)
      ≡ is_source (atn_of b) (here b k)
  source_kept k = test (eqb k x) (λ e. rw (eqb-true k x e) (go (turn b x n)))
      (λ e. let S = alike_other k (eqb-false k x e) in rw (S.around.atn, S.party) refl)
    where
      go : Turn b x → is_source (atn_of (after_turn b x)) (here (after_turn b x) x) ≡ is_source (atn_of b) (here b x)
      go (inl A) = still_no_source b I x A ∙ sym n
      go (inr h) = rw (after_turn, no_step b x h) refl

  pub still_none : (k : ℕ) → NoSource b k → NoSource (after_turn b x) k
  still_none k h = source_kept k ∙ h

-- Buses that are alike to a party are alike after its turn on both, and its answers are the same.
module _ (k : ℕ) (b c : Bus) (I : Inv b) (J : Inv c) (S : Alike k b c) (n : NoSource b k) where
  same_acts : acts b k ≡ acts c k
  same_acts = reads (m.view_at (place k) (lines b) b) (m.view_at (place k) (lines c) c) S.party S.around.standing
      S.around.atn ((states b I).dav ∙ ap stands S.around.standing ∙ sym (states c J).dav)

  too : NoSource c k
  too = rw (sym S.around.atn, sym S.party) n

  accepts_too : Accepts b k → Accepts c k
  accepts_too A = (rw (sym S.around.count) A.0, too)

  nowhere_too : ltb k b.count ≡ false → ltb k c.count ≡ false
  nowhere_too h = rw (sym S.around.count) h

  pub alike_after : Alike k (after_turn b k) (after_turn c k)
  alike_after = record {
    party = go (turn b k n);
    around = around_trans (after_turn b k) c (after_turn c k)
        (around_trans (after_turn b k) b c (around_after b I k n) S.around)
        (around_sym (after_turn c k) c (around_after c J k too));
  }
    where
      go : Turn b k → here (after_turn b k) k ≡ here (after_turn c k) k
      go (inl A) = own_next b I k A ∙ ap (λ (t : Bool). settled t (acts b k).party) S.around.atn
          ∙ ap (λ (e : Effect). settled (atn_of c) e.party) same_acts ∙ sym (own_next c J k (accepts_too A))
      go (inr h) = rw (after_turn, no_step b k h, no_step c k (nowhere_too h)) S.party

  pub same_answer : report_of (m.call b (step_of k)) ≡ report_of (m.call c (step_of k))
  same_answer = go (turn b k n)
    where
      go : Turn b k → report_of (m.call b (step_of k)) ≡ report_of (m.call c (step_of k))
      go (inl A) = ap report_of (as_local b I k A)
          ∙ ap (λ (e : Effect). report_of (answered false e.said c)) same_acts
          ∙ sym (ap report_of (as_local c J k (accepts_too A)))
      go (inr h) = rw (no_step b k h, no_step c k (nowhere_too h)) refl
