-- A byte is put, and a byte ends: what becomes of the invariant.
-- Assumes nothing.
use mathlib.Core.Path.{◌≡◌, refl, sym, ap, ◌∙◌}
use mathlib.Core.Bool.{Bool, true, false, ◌&&◌, ◌||◌}
use mathlib.Core.Logic.{◌⊎◌, inl, inr}
use Prim.Native.Nat.{ℕ, ◌≤◌, ◌<◌}
use native.Mathlib.Omega.{arith}
use lib.Dec.{ltb, eqb}
use borrow.Author.Tests.{eqb-true, eqb-false, eq-eqb, ltb-true, ltb-false}
use Rattle.party.specs.Parts.{idle}
use Rattle.party.specs.Driving.{is_active, nrfd_at, drives_nrfd}
use Rattle.role.specs.Roles.{role_heard}
use Rattle.party.specs.Sending.{is_source, is_polled}
use Rattle.role.proofs.Logic.{no, test, cond-elim, or_either}
use Rattle.role.proofs.Roles.{name_of, Apart, live, Addressed, hear_name, hear_all, Single, hear_single}
use Rattle.party.proofs.Settled.{source_case}
use Rattle.parties.specs.Places.{place}
use Rattle.parties.proofs.Places.{upd}
use Rattle.bus.specs.Types.{Party, Sgns, Strs, Acceptor, Aids, Anrs, Acrs, Kind, Role, Standing}
use Rattle.effect.specs.Stands.{of_command}
use Rattle.bus.proofs.Invariant.{one_sender, busy, active_busy, sent_by, of_status, of_data, is_command, code_of}
use Rattle.bus.proofs.Invariant.{in_acrs, is_acrs}
use Rattle.bus.proofs.Invariant.{waits, look, look_idle, same_heard, Pre, Quiet}
use Rattle.bus.proofs.Change.{upd_all, Unique, upd_unique, upd_apart}
use Rattle.std.specs.Prelude.{Option, Some, None, is_some}
use Rattle.effect.specs.Stands.{sent}

-- with ATN false nothing that stands is a command
pub off_command : (n : ℕ) (atn : Bool) (v : ℕ → Party) (st : Option Standing) → Pre n atn v st → atn ≡ false
    → is_command st ≡ false
off_command n atn v None P e = refl
off_command n atn v (Some st) P e = P.kind refl ∙ e

-- where no command stands, what holds once all have heard holds of the roles as they are
pub role_heard_lem : (n : ℕ) (atn : Bool) (v : ℕ → Party) (st : Option Standing) → Pre n atn v st
    → is_command st ≡ false
    → Addressed atn (λ j. (v j).role)
role_heard_lem n atn v st P c = same_heard (λ j. (v j).role) (λ j. look st j (v j)) (λ j. sym (look_idle st c j (v j)))
    P.heard

-- at most one party is a source
pub source_unique : (n : ℕ) (atn : Bool) (v : ℕ → Party) (st : Option Standing) → Pre n atn v st
    → Unique (is_source atn) v
source_unique n atn v st P i j e f = go (source_case atn (v i) e) (source_case atn (v j) f)
  where
    go : (is_active (v i) ≡ true) ⊎ ((atn ≡ false) × ((v i).role.talk ≡ true))
        → (is_active (v j) ≡ true) ⊎ ((atn ≡ false) × ((v j).role.talk ≡ true)) → i ≡ j
    go (inl a) (inl b) = P.charge i j (active_busy (v i) a) (active_busy (v j) b)
    go (inl a) (inr b) = let h = P.atn_if i a in no (cc)
    go (inr a) (inl b) = let h = P.atn_if j b in no (cc)
    go (inr a) (inr b) = (role_heard_lem n atn v st P (off_command n atn v st P a.0)).one i j a.1 b.1

-- while a source is not in STRS nothing stands
pub nothing_stands : (n : ℕ) (atn : Bool) (v : ℕ → Party) (st : Option Standing) → Pre n atn v st → Quiet atn v
    → (i : ℕ)
    → is_source atn (v i) ≡ true → ((v i).source ≡ Strs → ⊥) → st ≡ None
nothing_stands n atn v None P Q i e h = refl
nothing_stands n atn v (Some st) P Q i e h = absurd (h (rw same at strs))
  where
    strs : (v st.sender.0).source ≡ Strs
    strs = P.sent st.sender.0 (eq-eqb st.sender.0 st.sender.0 refl)

    src : is_source atn (v st.sender.0) ≡ true
    src = test (is_source atn (v st.sender.0)) (λ a. a) (λ a. let z = Q st.sender.0 a in no (cc strs))

    same : st.sender.0 ≡ i
    same = source_unique n atn v (Some st) P st.sender.0 i src e

-- who does not hold NRFD and takes part is ready
no_nrfd : (a : Acceptor) → nrfd_at a ≡ false → (a ≡ Aids → ⊥) → in_acrs a ≡ true
no_nrfd Aids e h = absurd (h refl)
no_nrfd Acrs e h = refl
no_nrfd a e h = no (cc)

pub look_on : (st : Option Standing) (j : ℕ) (p : Party) → waits st j p.acceptor ≡ true
    → look st j p ≡ role_heard (code_of st) p.role
look_on st j p e = rw e

pub look_off : (st : Option Standing) (j : ℕ) (p : Party) → waits st j p.acceptor ≡ false → look st j p ≡ p.role
look_off st j p e = rw e

-- a byte with the END that its kind allows, from a sender of that kind
pub record Fit (atn : Bool) (q : Party) (k : Kind) (y : Bool) : Type 0 where
  pub command : of_command k ≡ atn
  pub leads : of_command k ≡ true → is_active q ≡ true
  pub plain : y ≡ true → of_data k ≡ true
  pub status : of_status k ≡ is_polled atn q

pub put_pre : (n : ℕ) (atn : Bool) (v : ℕ → Party) → Pre n atn v None → (i : ℕ) → i < n
    → (q : Party) (k : Kind) (x : ℕ) (y : Bool)
    → q.role ≡ (v i).role → q.control ≡ (v i).control → q.acceptor ≡ (v i).acceptor → q.input ≡ (v i).input
    → q.source ≡ Strs
    → Fit atn q k y → ((j : ℕ) → drives_nrfd (v j) ≡ false) → Pre n atn (upd v i q) (Some (sent (place i) k x y))
put_pre n atn v P i l q k x y er ec eb ei es F nrfd = record {
  tail = tailed;
  atn_if = upd_all v i q (λ j x. is_active x ≡ true → atn ≡ true) (λ h. P.atn_if i (sym act ∙ h)) (λ j ne. P.atn_if j);
  charge = upd_unique v i q (λ x. busy x.control) P.charge (λ h j e ne. ne (P.charge j i e (rw ec at h)));
  addr = apart;
  sends = upd_all v i q (λ j x. x.source ≡ Strs → eqb j i ≡ true) (λ h. eq-eqb i i refl)
      (λ j ne h. let z = P.sends j h in no (cc));
  sent = sender (λ x. x.source ≡ Strs) es;
  kind = λ _. F.command;
  leads = λ c. sender (λ x. is_active x ≡ true) (F.leads c);
  no_anrs = λ s j e. let z = silent j in no (anrs (upd v i q j) e z);
  active = upd_all v i q (λ j x. is_active x ≡ true → x.acceptor ≡ Aids) (λ h. eb ∙ P.active i (sym act ∙ h))
      (λ j ne. P.active j);
  others = others;
  listens = λ t. upd_all v i q (λ j x. x.role.listen ≡ false → x.acceptor ≡ Aids)
      (λ h. eb ∙ P.listens t i (rw er at h)) (λ j ne. P.listens t j);
  joins = λ t. upd_all v i q (λ j x. x.role.listen ≡ true → x.acceptor ≡ Aids → ⊥)
      (λ h f. P.joins t i (rw er at h) (sym eb ∙ f)) (λ j ne. P.joins t j);
  heard = test (is_command st) (λ c. hear_all atn (sym F.command ∙ c) n roles (λ j. look st j (upd v i q j)) apart
      base (code_of st) (all c))
      (λ c. same_heard (λ j. look st j (upd v i q j)) roles (λ j. look_idle st c j (upd v i q j)) base);
  apart = upd_all v i q (λ j x. Single x.role) (rw er (P.apart i)) (λ j ne. P.apart j);
  empty = λ t. upd_all v i q (λ j x. x.acceptor ≡ Acrs → is_some x.input ≡ false)
      (λ h. ap is_some ei ∙ P.empty t i (sym eb ∙ h)) (λ j ne. P.empty t j);
  plain = F.plain;
  polled = sender (λ x. is_polled atn x ≡ true → of_status k ≡ true) (λ h. F.status ∙ h);
  polls = sender (λ x. of_status k ≡ true → is_source atn x ≡ true → is_polled atn x ≡ true) (λ h s. sym F.status ∙ h);
}
  where
    st : Option Standing
    st = Some (sent (place i) k x y)

    roles : ℕ → Role
    roles j = (upd v i q j).role

    bad : n ≤ i → ⊥
    bad h = omega arith

    act : is_active q ≡ is_active (v i)
    act = rw ec

    -- what holds of the sender
    sender : (R : Party → Type 0) → R q → (j : ℕ) → eqb j i ≡ true → R (upd v i q j)
    sender R r = upd_all v i q (λ j x. eqb j i ≡ true → R x) (λ _. r) (λ j ne h. absurd (ne (eqb-true j i h)))

    silent : (j : ℕ) → drives_nrfd (upd v i q j) ≡ false
    silent = upd_all v i q (λ j x. drives_nrfd x ≡ false) (rw eb (nrfd i)) (λ j ne. nrfd j)

    anrs : (p : Party) → p.acceptor ≡ Anrs → drives_nrfd p ≡ false → ◌≡◌ {A = ℕ} 0 1
    anrs p e h = cc

    tailed : (j : ℕ) → n ≤ j → upd v i q j ≡ idle
    tailed = upd_all v i q (λ j x. n ≤ j → x ≡ idle) (λ h. absurd (bad h)) (λ j ne. P.tail j)

    others : atn ≡ true → (j : ℕ) → j < n → is_active (upd v i q j) ≡ false → (upd v i q j).acceptor ≡ Aids → ⊥
    others t = upd_all v i q (λ j x. j < n → is_active x ≡ false → x.acceptor ≡ Aids → ⊥)
        (λ m h e. P.others t i m (sym act ∙ h) (sym eb ∙ e)) (λ j ne. P.others t j)

    apart : Apart n roles
    apart = upd_apart n v i q (ap name_of er) P.addr

    base : Addressed atn roles
    base = same_heard roles (λ j. (v j).role) (upd_all v i q (λ j x. x.role ≡ (v j).role) er (λ j ne. refl)) P.heard

    -- nobody is left out of a command
    quiet : (j : ℕ) → (j ≡ i → ⊥) → is_command st ≡ true → is_active (v j) ≡ false
    quiet j ne c = test (is_active (v j)) (λ h. absurd
        (ne (P.charge j i (active_busy (v j) h) (active_busy (v i) (sym act ∙ F.leads c))))) (λ h. h)

    waiting : is_command st ≡ true → (j : ℕ) → j < n → waits st j (upd v i q j).acceptor ≡ true
    waiting c j m = rw c (or_either (eqb j i) (in_acrs (upd v i q j).acceptor)
        (λ h. no_nrfd (upd v i q j).acceptor (silent j) (others (sym F.command ∙ c) j m (other (eqb-false j i h)))))
      where
        other : (j ≡ i → ⊥) → is_active (upd v i q j) ≡ false
        other ne = upd_all v i q (λ k x. (k ≡ i → ⊥) → is_active x ≡ false) (λ h. absurd (h refl))
            (λ k nk h. quiet k nk c) j ne

    gone : (j : ℕ) → n ≤ j → live (look st j (upd v i q j)) ≡ false
    gone j h = ap live (look_off st j (upd v i q j)
        (rw (tailed j h) (far (is_command st) (eqb j i) (test (eqb j i) (λ e. absurd (here e)) (λ e. e)))))
        ∙ ap (λ (p : Party). live p.role) (tailed j h)
      where
        here : eqb j i ≡ true → ⊥
        here e = let z = eqb-true j i e in omega arith

        far : (c x : Bool) → x ≡ false → (c && (x || false)) ≡ false
        far true x e = rw e
        far false x e = refl

    all : is_command st ≡ true → (j : ℕ) → live (look st j (upd v i q j)) ≡ true
        → (j < n) × (look st j (upd v i q j) ≡ role_heard (code_of st) (roles j))
    all c j h = test (ltb j n) (λ e. (ltb-true j n e, look_on st j (upd v i q j) (waiting c j (ltb-true j n e))))
        (λ e. let z = gone j (ltb-false j n e) in no (cc))

-- a byte ends, and a command is heard by its sender
pub end_pre : (n : ℕ) (atn : Bool) (v : ℕ → Party) (st : Option Standing) → Pre n atn v st → (i : ℕ) → i < n
    → sent_by i st ≡ true → (q : Party)
    → q.role ≡ look st i (v i) → q.control ≡ (v i).control → q.acceptor ≡ (v i).acceptor → q.input ≡ (v i).input
    → q.source ≡ Sgns
    → ((j : ℕ) → (v j).acceptor ≡ Acrs → ⊥) → Pre n atn (upd v i q) None
end_pre n atn v st P i l s q er ec eb ei es na = record {
  tail = upd_all v i q (λ j x. n ≤ j → x ≡ idle) (λ h. absurd (bad h)) (λ j ne. P.tail j);
  atn_if = upd_all v i q (λ j x. is_active x ≡ true → atn ≡ true) (λ h. P.atn_if i (sym act ∙ h)) (λ j ne. P.atn_if j);
  charge = upd_unique v i q (λ x. busy x.control) P.charge (λ h j e ne. ne (P.charge j i e (rw ec at h)));
  addr = upd_apart n v i q (ap name_of er ∙ named) P.addr;
  sends = upd_all v i q (λ j x. x.source ≡ Strs → false ≡ true) (λ h. no (cc))
      (λ j ne h. absurd (ne (one_sender st j i (P.sends j h) s)));
  sent = λ j h. no (cc);
  kind = λ h. no (cc);
  leads = λ h. no (cc);
  no_anrs = λ h. no (cc);
  active = upd_all v i q (λ j x. is_active x ≡ true → x.acceptor ≡ Aids) (λ h. eb ∙ P.active i (sym act ∙ h))
      (λ j ne. P.active j);
  others = λ t. upd_all v i q (λ j x. j < n → is_active x ≡ false → x.acceptor ≡ Aids → ⊥)
      (λ m h e. P.others t i m (sym act ∙ h) (sym eb ∙ e)) (λ j ne. P.others t j);
  listens = λ t. upd_all v i q (λ j x. x.role.listen ≡ false → x.acceptor ≡ Aids)
      (λ h. eb ∙ P.listens t i (rw (er ∙ look_idle st (off_command n atn v st P t) i (v i)) at h))
      (λ j ne. P.listens t j);
  joins = λ t. upd_all v i q (λ j x. x.role.listen ≡ true → x.acceptor ≡ Aids → ⊥)
      (λ h f. P.joins t i (rw (er ∙ look_idle st (off_command n atn v st P t) i (v i)) at h) (sym eb ∙ f))
      (λ j ne. P.joins t j);
  heard = same_heard (λ j. (upd v i q j).role) (λ j. look st j (v j))
      (upd_all v i q (λ j x. x.role ≡ look st j (v j)) er (λ j ne. sym (look_off st j (v j) (done j ne)))) P.heard;
  apart = upd_all v i q (λ j x. Single x.role) (rw er single) (λ j ne. P.apart j);
  empty = λ t. upd_all v i q (λ j x. x.acceptor ≡ Acrs → is_some x.input ≡ false)
      (λ h. ap is_some ei ∙ P.empty t i (sym eb ∙ h)) (λ j ne. P.empty t j);
  plain = λ h. no (cc);
  polled = λ j h. no (cc);
  polls = λ j h. no (cc);
}
  where
    bad : n ≤ i → ⊥
    bad h = omega arith

    act : is_active q ≡ is_active (v i)
    act = rw ec

    named : name_of (look st i (v i)) ≡ name_of (v i).role
    named = cond-elim (λ (r : Role). name_of r ≡ name_of (v i).role) (waits st i (v i).acceptor)
        (λ _. hear_name (code_of st) (v i).role) (λ _. refl)

    single : Single (look st i (v i))
    single = cond-elim Single (waits st i (v i).acceptor) (λ _. hear_single (code_of st) (v i).role (P.apart i))
        (λ _. P.apart i)

    -- everyone else has heard
    done : (j : ℕ) → (j ≡ i → ⊥) → waits st j (v j).acceptor ≡ false
    done j ne = nor (is_command st) (sent_by j st) (in_acrs (v j).acceptor) (λ h. ne (one_sender st j i h s))
        (λ h. na j (is_acrs (v j).acceptor h))
      where
        nor : (c x y : Bool) → (x ≡ true → ⊥) → (y ≡ true → ⊥) → (c && (x || y)) ≡ false
        nor true true y f g = absurd (f refl)
        nor true false true f g = absurd (g refl)
        nor c x y f g = refl
