-- Roles: what hearing does to addressing, and why at most one party talks.
-- Nothing outside this file and Cases.antt goes by cases on a meaning.
-- Assumes nothing.
use mathlib.Core.Path.{◌≡◌, refl, sym, ap, ◌∙◌}
use mathlib.Core.Bool.{Bool, true, false, ◌||◌}
use mathlib.Core.Logic.{◌⊎◌, inl, inr}
use Prim.Native.Nat.{ℕ, ◌<◌}
use borrow.Author.Tests.{eqb-true}
use Rattle.message.specs.declared.Meaning.TheVariants.{Listen, Unlisten, Talk, Untalk, Sdc, Get, Tct, Dcl}
use Rattle.message.specs.declared.Meaning.TheVariants.{Second, Neither, Ppc}
use Rattle.role.specs.Types.{Address, SecondaryAddress, Meaning, Name, Role, Event}
use Rattle.role.specs.Types.ev
use Rattle.names.specs.Names.{meets, clashes}
use Rattle.names.proofs.Clashes.{is_extended, meets_extended, given_meets, same_clash}
use Rattle.role.specs.Roles.{unaddressed, with_flags, owns, owns_secondary, mark_after, role_heard, hear_event}
use Rattle.role.specs.Roles.{passes_control}
use Rattle.role.proofs.Logic.{no, test, cond-elim, or_left, or_right}
use Rattle.role.proofs.Cases.{talk_primary, listen_elim, talk_elim, second_elim, listen_weak, talk_weak}
use Rattle.role.proofs.Cases.{second_weak, listen_unmarked, listen_talk, talk_talk, talk_mark, talk_sets}
use Rattle.role.proofs.Cases.{second_talk, configured_unmarked}

-- What a build fixes of a role.
abbrev pub name_of : Role → Name
name_of r = r.name

abbrev primary_of : Name → ℕ
primary_of n = n.address.0

-- no two of the first n roles answer to the same bytes
abbrev pub Apart : ℕ → (ℕ → Role) → Type 0
Apart n w = (i j : ℕ) → i < n → j < n → clashes (name_of (w i)) (name_of (w j)) ≡ true → i ≡ j

-- the role waits for its talk secondary
abbrev pub marked : Role → Bool
marked r = talk_primary r.mark

-- the role talks, or may come to by a secondary
abbrev pub live : Role → Bool
live r = r.talk || marked r

-- The roles of a bus, with ATN on or off, on which all that was sent is heard.
pub record Addressed (atn : Bool) (w : ℕ → Role) : Type 0 where
  -- at most one party talks: with ATN false it is the only source
  pub one : (i j : ℕ) → (w i).talk ≡ true → (w j).talk ≡ true → i ≡ j
  -- where some party waits for its talk secondary, who talks waits for one too: a secondary moves talk, and makes no
  -- second talker
  pub led : (i j : ℕ) → marked (w i) ≡ true → (w j).talk ≡ true → marked (w j) ≡ true
  -- who waits for a talk secondary has the primary last sent, so that a secondary names one of them
  pub near : (i j : ℕ) → marked (w i) ≡ true → marked (w j) ≡ true
      → primary_of (name_of (w i)) ≡ primary_of (name_of (w j))
  -- with ATN false nobody waits: talk-only on makes no second talker later
  pub off : atn ≡ false → (j : ℕ) → marked (w j) ≡ false

-- q claims no more than r
pub record Weak (r q : Role) : Type 0 where
  pub talk : q.talk ≡ true → r.talk ≡ true
  pub marks : marked q ≡ true → marked r ≡ true
  pub keeps : q.talk ≡ true → marked r ≡ true → marked q ≡ true
  pub spot : marked q ≡ true → primary_of (name_of q) ≡ primary_of (name_of r)

pub weak_same : (r q : Role) → q ≡ r → Weak r q
weak_same r q e = record {
  talk = λ h. rw e at h;
  marks = λ h. rw e at h;
  keeps = λ _ h. rw e h;
  spot = λ _. ap (λ (x : Role). primary_of (name_of x)) e;
}

pub weak_unaddressed : (r : Role) (n : Name) → Weak r (unaddressed n)
weak_unaddressed r n = record { talk = λ h. no (cc); marks = λ h. no (cc); keeps = λ h. no (cc); spot = λ h. no (cc) }

-- talk goes on nowhere, mark and name are as they were
weakly : {r q : Role} → (q.talk ≡ true → r.talk ≡ true) → marked q ≡ marked r → name_of q ≡ name_of r → Weak r q
weakly f m n = record { talk = f; marks = λ e. sym m ∙ e; keeps = λ _ e. m ∙ e; spot = λ _. ap primary_of n }

pub weak_flags : (t l : Bool) (r : Role) → (t ≡ true → r.talk ≡ true) → Weak r (with_flags t l r)
weak_flags t l r h = weakly h refl refl

pub weaken : {atn : Bool} (w u : ℕ → Role) → ((j : ℕ) → Weak (w j) (u j)) → Addressed atn w → Addressed atn u
weaken w u h A = record {
  one = λ i j e f. A.one i j ((h i).talk e) ((h j).talk f);
  led = λ i j e f. (h j).keeps f (A.led i j ((h i).marks e) ((h j).talk f));
  near = λ i j e f. (h i).spot e ∙ A.near i j ((h i).marks e) ((h j).marks f) ∙ sym ((h j).spot f);
  off = λ t j. test (marked (u j)) (λ e. let z = A.off t j in let y = (h j).marks e in no (cc)) (λ e. e);
}

-- where no mark is set, one talker at the most is all
pub unmarked : {atn : Bool} (w : ℕ → Role) → ((i j : ℕ) → (w i).talk ≡ true → (w j).talk ≡ true → i ≡ j)
    → ((j : ℕ) → marked (w j) ≡ false) → Addressed atn w
unmarked w u h = record {
  one = u;
  led = λ i j e f. let z = h i in no (cc);
  near = λ i j e f. let z = h i in no (cc);
  off = λ t. h;
}

-- talk and listen are not both on
abbrev pub Single : Role → Type 0
Single r = r.talk ≡ true → r.listen ≡ true → ⊥

pub hear_single : (m : Meaning) (r : Role) → Single r → Single (role_heard m r)
hear_single (Listen a) r h = listen_elim Single (name_of r).secondary (owns a r) r (λ e. no (cc)) h
hear_single Unlisten r h = λ e f. no (cc)
hear_single (Talk a) r h = talk_elim Single (name_of r).secondary (owns a r) r (λ e f. no (cc)) (λ e. no (cc)) h
hear_single Untalk r h = λ e. no (cc)
hear_single (Second s) r h = second_elim Single r.mark (owns_secondary s r) r (λ e f. no (cc)) (λ e. no (cc))
    (λ e. no (cc)) h
hear_single m r h = h

pub hear_name : (m : Meaning) (r : Role) → name_of (role_heard m r) ≡ name_of r
hear_name (Listen a) r = listen_elim (λ (x : Role). name_of x ≡ name_of r) (name_of r).secondary (owns a r) r refl refl
hear_name (Talk a) r = talk_elim (λ (x : Role). name_of x ≡ name_of r) (name_of r).secondary (owns a r) r refl refl refl
hear_name (Second s) r = second_elim (λ (x : Role). name_of x ≡ name_of r) r.mark (owns_secondary s r) r refl refl refl
    refl
hear_name m r = refl

-- talk or listen changed by the host before what stands is heard: PPC marks by listen, and leaves no talk mark
same_mark : (m : Meaning) (t l : Bool) (r : Role) → talk_primary (mark_after m (with_flags t l r)) ≡ talk_primary
    (mark_after m r)
same_mark Ppc t l r = configured_unmarked l r.mark ∙ sym (configured_unmarked r.listen r.mark)
same_mark m t l r = refl

no_more_talk : (m : Meaning) (t l : Bool) (r : Role) → (t ≡ true → r.talk ≡ true)
    → (role_heard m (with_flags t l r)).talk ≡ true → (role_heard m r).talk ≡ true
no_more_talk (Listen a) t l r h = listen_weak (name_of r).secondary (owns a r) t l r h
no_more_talk (Talk a) t l r h = talk_weak (name_of r).secondary (owns a r) t l r h
no_more_talk Untalk t l r h = λ e. e
no_more_talk (Second s) t l r h = second_weak r.mark (owns_secondary s r) t l r h
no_more_talk m t l r h = h

pub hear_weak : (m : Meaning) (t l : Bool) (r : Role) → (t ≡ true → r.talk ≡ true)
    → Weak (role_heard m r) (role_heard m (with_flags t l r))
hear_weak m t l r h = weakly (no_more_talk m t l r h) (same_mark m t l r)
    (hear_name m (with_flags t l r) ∙ sym (hear_name m r))

-- the command that passes control leaves every talk as it is
pub hear_passes : (m : Meaning) (r : Role) → passes_control m ≡ true → (role_heard m r).talk ≡ r.talk
hear_passes Tct r h = refl
hear_passes m r h = no (cc)

-- what holds of heard, clear and trigger holds of the event of hearing
pub hear_events : (P : Event → Type 0) → P ev.Heard → P ev.Clear → P ev.Trigger → (m : Meaning) (listen : Bool)
    → P (hear_event m listen)
hear_events P h c t Sdc l = cond-elim P l (λ _. c) (λ _. h)
hear_events P h c t Get l = cond-elim P l (λ _. t) (λ _. h)
hear_events P h c t Dcl l = c
hear_events P h c t m l = h

-- Every one of n parties with roles w hears m, with ATN true, and has role u then: still at most one talks.
module _ (atn : Bool) (on : atn ≡ true) (n : ℕ) (w u : ℕ → Role) (D : Apart n w) (A : Addressed atn w) where
  abbrev pub Heard : Meaning → Type 0
  Heard m = (j : ℕ) → live (u j) ≡ true → (j < n) × (u j ≡ role_heard m (w j))

  module _ (m : Meaning) (H : Heard m) where
    by_talk : (j : ℕ) → (u j).talk ≡ true → (j < n) × (u j ≡ role_heard m (w j)) × ((role_heard m (w j)).talk ≡ true)
    by_talk j e = let h = H j (or_left (u j).talk (marked (u j)) e) in (h.0, h.1, rw h.1 at e)

    by_mark : (j : ℕ) → marked (u j) ≡ true → (j < n) × (u j ≡ role_heard m (w j))
        × (marked (role_heard m (w j)) ≡ true)
    by_mark j e = let h = H j (or_right (u j).talk e) in (h.0, h.1, rw h.1 at e)

    -- who is marked has the name that it had
    named : (j : ℕ) → marked (u j) ≡ true → name_of (u j) ≡ name_of (w j)
    named j e = ap name_of (by_mark j e).1 ∙ hear_name m (w j)

    close : (i j : ℕ) → marked (u i) ≡ true → marked (u j) ≡ true
        → primary_of (name_of (w i)) ≡ primary_of (name_of (w j))
        → primary_of (name_of (u i)) ≡ primary_of (name_of (u j))
    close i j e f p = ap primary_of (named i e) ∙ p ∙ sym (ap primary_of (named j f))

    -- a command that turns nobody's talk on, and clears every mark
    tame : ((r : Role) → (role_heard m r).talk ≡ true → r.talk ≡ true)
        → ((r : Role) → talk_primary (mark_after m r) ≡ false) → Addressed atn u
    tame f g = record {
      one = λ i j e h. A.one i j (f (w i) (by_talk i e).2) (f (w j) (by_talk j h).2);
      led = λ i j e h. let z = (by_mark i e).2 in let y = g (w i) in no (cc);
      near = λ i j e h. let z = (by_mark i e).2 in let y = g (w i) in no (cc);
      off = λ t. no (cc);
    }

  -- A talk address: the parties of that primary, of whom a plain one talks, and those with a secondary wait.
  module _ (a : Address) (H : Heard (Talk a)) where
    talks : (i : ℕ) → (u i).talk ≡ true → (owns a (w i) ≡ true) × (is_extended (name_of (w i)).secondary ≡ true → (w i
        ).talk ≡ true)
    talks i e = talk_talk (name_of (w i)).secondary (owns a (w i)) (w i) (by_talk (Talk a) H i e).2

    waits : (i : ℕ) → marked (u i) ≡ true → owns a (w i) ≡ true
    waits i e = talk_mark (name_of (w i)).secondary (owns a (w i)) (by_mark (Talk a) H i e).2

    same : (i j : ℕ) → owns a (w i) ≡ true → owns a (w j) ≡ true
        → primary_of (name_of (w i)) ≡ primary_of (name_of (w j))
    same i j e f = sym (eqb-true a.0 (primary_of (name_of (w i))) e) ∙ eqb-true a.0 (primary_of (name_of (w j))) f

    -- two of that primary are one party, or both have secondaries
    apart : (i j : ℕ) → i < n → j < n → owns a (w i) ≡ true → owns a (w j) ≡ true
        → (i ≡ j) ⊎ ((is_extended (name_of (w i)).secondary ≡ true) × (is_extended (name_of (w j)).secondary ≡ true))
    apart i j l k e f = test (meets (name_of (w i)).secondary (name_of (w j)).secondary)
        (λ m. inl (D i j l k (same_clash (name_of (w i)) (name_of (w j)) (same i j e f) m)))
        (λ m. inr (meets_extended (name_of (w i)).secondary (name_of (w j)).secondary m))

    talked : Addressed atn u
    talked = record {
      one = λ i j e f. one i j e f (apart i j (by_talk (Talk a) H i e).0 (by_talk (Talk a) H j f).0 (talks i e).0
          (talks j f).0);
      led = λ i j e f. led i j e f (apart i j (by_mark (Talk a) H i e).0 (by_talk (Talk a) H j f).0 (waits i e)
          (talks j f).0);
      near = λ i j e f. close (Talk a) H i j e f (same i j (waits i e) (waits j f));
      off = λ t. no (cc);
    }
      where
        one : (i j : ℕ) → (u i).talk ≡ true → (u j).talk ≡ true
            → (i ≡ j) ⊎ ((is_extended (name_of (w i)).secondary ≡ true)
            × (is_extended (name_of (w j)).secondary ≡ true))
            → i ≡ j
        one i j e f (inl z) = z
        one i j e f (inr z) = A.one i j ((talks i e).1 z.0) ((talks j f).1 z.1)

        led : (i j : ℕ) → marked (u i) ≡ true → (u j).talk ≡ true
            → (i ≡ j) ⊎ ((is_extended (name_of (w i)).secondary ≡ true)
            × (is_extended (name_of (w j)).secondary ≡ true))
            → marked (u j) ≡ true
        led i j e f (inl z) = rw z at e
        led i j e f (inr z) = rw (by_talk (Talk a) H j f).1
            (talk_sets (name_of (w j)).secondary (owns a (w j)) (talks j f).0 z.1)

  -- A secondary: of those who wait it names one, and whoever else waits stops talking.
  module _ (s : SecondaryAddress) (H : Heard (Second s)) where
    abbrev Kept : Role → Type 0
    Kept r = ((marked r ≡ true) × (owns_secondary s r ≡ true)) ⊎ ((marked r ≡ false) × (r.talk ≡ true))

    kept : (i : ℕ) → (u i).talk ≡ true → Kept (w i)
    kept i e = second_talk (w i).mark (owns_secondary s (w i)) (w i) (by_talk (Second s) H i e).2

    seconds : Addressed atn u
    seconds = record {
      one = λ i j e f. one i j (by_talk (Second s) H i e).0 (by_talk (Second s) H j f).0 (kept i e) (kept j f);
      led = λ i j e f. rw (by_talk (Second s) H j f).1
          (led (w j) (kept j f) (A.led i j (by_mark (Second s) H i e).2));
      near = λ i j e f. close (Second s) H i j e f
          (A.near i j (by_mark (Second s) H i e).2 (by_mark (Second s) H j f).2);
      off = λ t. no (cc);
    }
      where
        led : (r : Role) → Kept r → (r.talk ≡ true → marked r ≡ true) → marked r ≡ true
        led r (inl x) h = x.0
        led r (inr x) h = h x.1

        one : (i j : ℕ) → i < n → j < n → Kept (w i) → Kept (w j) → i ≡ j
        one i j l k (inl x) (inl y) = D i j l k
            (same_clash (name_of (w i)) (name_of (w j)) (A.near i j x.0 y.0)
            (given_meets s (name_of (w i)).secondary (name_of (w j)).secondary x.1 y.1))
        one i j l k (inl x) (inr y) = let z = A.led i j x.0 y.1 in let v = y.0 in no (cc)
        one i j l k (inr x) (inl y) = let z = A.led j i y.0 x.1 in let v = x.0 in no (cc)
        one i j l k (inr x) (inr y) = A.one i j x.1 y.1

  -- 7F changes no flag and no mark
  pass_by : Heard Neither → Addressed atn u
  pass_by H = record {
    one = λ i j e f. A.one i j (by_talk Neither H i e).2 (by_talk Neither H j f).2;
    led = λ i j e f. rw (by_talk Neither H j f).1 (A.led i j (by_mark Neither H i e).2 (by_talk Neither H j f).2);
    near = λ i j e f. close Neither H i j e f (A.near i j (by_mark Neither H i e).2 (by_mark Neither H j f).2);
    off = λ t. no (cc);
  }

  pub hear_all : (m : Meaning) → Heard m → Addressed atn u
  hear_all (Listen a) H = tame (Listen a) H (λ r. listen_talk (name_of r).secondary (owns a r) r)
      (λ r. listen_unmarked (name_of r).secondary (owns a r))
  hear_all (Talk a) H = talked a H
  hear_all Untalk H = tame Untalk H (λ r e. no (cc)) (λ r. refl)
  hear_all (Second s) H = seconds s H
  hear_all Neither H = pass_by H
  hear_all Ppc H = tame Ppc H (λ r e. e) (λ r. configured_unmarked r.listen r.mark)
  hear_all m H = tame m H (λ r e. e) (λ r. refl)
