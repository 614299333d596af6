-- One party changes and what stands stays: what the change must keep for the invariant to hold.
-- Assumes nothing.
use mathlib.Core.Path.{◌≡◌, refl, sym, ap, ◌∙◌}
use mathlib.Core.Bool.{Bool, true, false}
use Prim.Native.Nat.{ℕ, ◌≤◌, ◌<◌}
use native.Mathlib.Omega.{arith}
use lib.Dec.{eqb}
use borrow.Author.Tests.{eqb-true, eqb-false}
use Rattle.party.specs.Parts.{idle}
use Rattle.party.specs.Driving.{is_active}
use Rattle.party.specs.Sending.{is_source, is_polled}
use Rattle.names.specs.Names.{clashes}
use Rattle.role.proofs.Logic.{cond-elim}
use Rattle.role.proofs.Roles.{name_of, Single, Apart, Addressed, Weak, weak_same, weaken}
use Rattle.parties.proofs.Places.{upd}
use Rattle.bus.specs.Types.{Name, Party, Strs, Aids, Anrs, Acrs, Role, Standing}
use Rattle.effect.specs.Stands.{stands}
use Rattle.bus.proofs.Invariant.{busy, sent_by, of_status, stands_of, look, Pre}
use Rattle.std.specs.Prelude.{Option, is_some}

module _ (v : ℕ → Party) (i : ℕ) (q : Party) where
  -- what holds of q at place i and of the others as they were holds of all
  pub upd_all : (R : ℕ → Party → Type 0) → R i q → ((j : ℕ) → (j ≡ i → ⊥) → R j (v j)) → (j : ℕ) → R j (upd v i q j)
  upd_all R f g j = cond-elim (R j) (eqb j i) (λ e. rw (eqb-true j i e) f) (λ e. g j (eqb-false j i e))

abbrev pub Unique : (Party → Bool) → (ℕ → Party) → Type 0
Unique f v = (i j : ℕ) → f (v i) ≡ true → f (v j) ≡ true → i ≡ j

pub upd_unique : (v : ℕ → Party) (i : ℕ) (q : Party) (f : Party → Bool) → Unique f v
    → (f q ≡ true → (j : ℕ) → f (v j) ≡ true → (j ≡ i → ⊥) → ⊥) → Unique f (upd v i q)
upd_unique v i q f u h = upd_all v i q (λ a x. (b : ℕ) → f x ≡ true → f (upd v i q b) ≡ true → a ≡ b)
    (upd_all v i q (λ b y. f q ≡ true → f y ≡ true → i ≡ b) (λ _ _. refl) (λ b ne e k. absurd (h e b k ne)))
    (λ a ne. upd_all v i q (λ b y. f (v a) ≡ true → f y ≡ true → a ≡ b) (λ e k. absurd (h k a e ne))
    (λ b me e k. u a b e k))

pub same_apart : (n : ℕ) (v u : ℕ → Role) → ((j : ℕ) → name_of (u j) ≡ name_of (v j)) → Apart n v → Apart n u
same_apart n v u h D i j li lj e = D i j li lj
    (sym (ap (λ (x : Name). clashes (name_of (v i)) x) (h j)) ∙ sym (ap (λ (x : Name). clashes x (name_of (u j))) (h i))
    ∙ e)

pub upd_apart : (n : ℕ) (v : ℕ → Party) (i : ℕ) (q : Party) → name_of q.role ≡ name_of (v i).role
    → Apart n (λ j. (v j).role) → Apart n (λ j. (upd v i q j).role)
upd_apart n v i q e = same_apart n (λ j. (v j).role) (λ j. (upd v i q j).role)
    (upd_all v i q (λ j x. name_of x.role ≡ name_of (v j).role) e (λ j ne. refl))

-- party i claims no more than it did
pub weak_look : {atn : Bool} (v : ℕ → Party) (st : Option Standing) (i : ℕ) (q : Party)
    → Weak (look st i (v i)) (look st i q)
    → Addressed atn (λ j. look st j (v j)) → Addressed atn (λ j. look st j (upd v i q j))
weak_look v st i q h = weaken (λ j. look st j (v j)) (λ j. look st j (upd v i q j))
    (upd_all v i q (λ j x. Weak (look st j (v j)) (look st j x)) h
    (λ j ne. weak_same (look st j (v j)) (look st j (v j)) refl))

-- p becomes q: what that keeps
pub record Kept (atn : Bool) (st : Option Standing) (p q : Party) : Type 0 where
  pub name : name_of q.role ≡ name_of p.role
  pub act : is_active q ≡ is_active p
  pub ctl : busy q.control ≡ true → busy p.control ≡ true
  pub strs : q.source ≡ Strs → p.source ≡ Strs
  pub stst : p.source ≡ Strs → q.source ≡ Strs
  pub no_anrs : stands st ≡ true → q.acceptor ≡ Anrs → ⊥
  pub active : is_active p ≡ true → q.acceptor ≡ Aids
  pub others : atn ≡ true → is_active p ≡ false → q.acceptor ≡ Aids → ⊥
  pub listens : atn ≡ false → q.role.listen ≡ false → q.acceptor ≡ Aids
  pub joins : atn ≡ false → q.role.listen ≡ true → q.acceptor ≡ Aids → ⊥
  pub apart : Single q.role
  pub empty : atn ≡ false → q.acceptor ≡ Acrs → is_some q.input ≡ false
  -- of a sender: it is polled if it was, and was if it is and is a source still
  pub polled : p.source ≡ Strs → is_polled atn q ≡ true → is_polled atn p ≡ true
  pub polls : p.source ≡ Strs → is_source atn q ≡ true
      → (is_source atn p ≡ true) × (is_polled atn p ≡ true → is_polled atn q ≡ true)

pub keep_pre : (n : ℕ) (atn : Bool) (v : ℕ → Party) (st : Option Standing) → Pre n atn v st → (i : ℕ) → i < n
    → (q : Party)
    → Kept atn st (v i) q
    → Addressed atn (λ j. look st j (upd v i q j)) → Pre n atn (upd v i q) st
keep_pre n atn v st P i l q K o = record {
  tail = upd_all v i q (λ j x. n ≤ j → x ≡ idle) (λ h. absurd (bad h)) (λ j ne. P.tail j);
  atn_if = upd_all v i q (λ j x. is_active x ≡ true → atn ≡ true) (λ h. P.atn_if i (sym K.act ∙ h))
      (λ j ne. P.atn_if j);
  charge = upd_unique v i q (λ x. busy x.control) P.charge (λ h j e ne. ne (P.charge j i e (K.ctl h)));
  addr = upd_apart n v i q K.name P.addr;
  sends = upd_all v i q (λ j x. x.source ≡ Strs → sent_by j st ≡ true) (λ h. P.sends i (K.strs h))
      (λ j ne. P.sends j);
  sent = upd_all v i q (λ j x. sent_by j st ≡ true → x.source ≡ Strs) (λ h. K.stst (P.sent i h)) (λ j ne. P.sent j);
  kind = P.kind;
  leads = λ c. upd_all v i q (λ j x. sent_by j st ≡ true → is_active x ≡ true) (λ h. K.act ∙ P.leads c i h)
      (λ j ne. P.leads c j);
  no_anrs = λ s. upd_all v i q (λ j x. x.acceptor ≡ Anrs → ⊥) (K.no_anrs s) (λ j ne. P.no_anrs s j);
  active = upd_all v i q (λ j x. is_active x ≡ true → x.acceptor ≡ Aids) (λ h. K.active (sym K.act ∙ h))
      (λ j ne. P.active j);
  others = λ t. upd_all v i q (λ j x. j < n → is_active x ≡ false → x.acceptor ≡ Aids → ⊥)
      (λ m h. K.others t (sym K.act ∙ h)) (λ j ne. P.others t j);
  listens = λ t. upd_all v i q (λ j x. x.role.listen ≡ false → x.acceptor ≡ Aids) (K.listens t)
      (λ j ne. P.listens t j);
  joins = λ t. upd_all v i q (λ j x. x.role.listen ≡ true → x.acceptor ≡ Aids → ⊥) (K.joins t)
      (λ j ne. P.joins t j);
  heard = o;
  apart = upd_all v i q (λ j x. Single x.role) K.apart (λ j ne. P.apart j);
  empty = λ t. upd_all v i q (λ j x. x.acceptor ≡ Acrs → is_some x.input ≡ false) (K.empty t)
      (λ j ne. P.empty t j);
  plain = P.plain;
  polled = upd_all v i q (λ j x. sent_by j st ≡ true → is_polled atn x ≡ true → stands_of of_status st ≡ true)
      (λ h e. P.polled i h (K.polled (P.sent i h) e)) (λ j ne. P.polled j);
  polls = upd_all v i q (λ j x. sent_by j st ≡ true → stands_of of_status st ≡ true → is_source atn x ≡ true
      → is_polled atn
      x ≡ true)
      (λ h s e. let r = K.polls (P.sent i h) e in r.1 (P.polls i h s r.0))
      (λ j ne. P.polls j);
}
  where
    bad : n ≤ i → ⊥
    bad h = omega arith
