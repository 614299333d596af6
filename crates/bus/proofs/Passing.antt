-- TCT has ended: control goes to the talker, and the sender is idle.
-- Assumes nothing.
use mathlib.Core.Path.{◌≡◌, refl, sym, ap, ◌∙◌, subst}
use mathlib.Core.Bool.{Bool, true, false}
use Prim.Native.Nat.{ℕ, ◌+◌, ◌≤◌, ◌<◌}
use native.Mathlib.Omega.{arith}
use lib.ListN.{length, set, length-set}
use lib.Dec.{ltb}
use lib.Seq.{get_or-set_other}
use borrow.Author.Tests.{eq-eqb, ltb-true, ltb-false}
use Rattle.message.specs.Meaning.{meaning_of}
use Rattle.party.specs.Parts.{idle, held_bytes, with_source}
use Rattle.party.specs.Driving.{is_active}
use Rattle.role.specs.Roles.{passes_control}
use Rattle.party.specs.Settling.{change_control}
use Rattle.role.proofs.Logic.{no, test, cond-elim}
use Rattle.role.proofs.Roles.{name_of, Single, hear_single, hear_name, hear_passes}
use Rattle.parties.specs.Places.{at, total, other_talker}
use Rattle.parties.proofs.Places.{upd, at_set, total_set, first_found}
use Rattle.bus.specs.Types.{Place, Party, Role, Idle, Active, Sgns, Command, Bus, After}
use Rattle.bus.specs.Types.ev
use Rattle.bus.specs.Types.call_of
use Rattle.bus.specs.Types.act_of
use Rattle.bus.specs.Record.{here, lines}
use Rattle.effect.specs.Effects.{say}
use Rattle.party.specs.Sending.{party_heard}
use Rattle.bus.specs.Settling.{pass}
use Rattle.bus.specs.Delivery.{held}
use Rattle.bus.proofs.Invariant.{busy, active_busy, waits, look, Inv}
use Rattle.bus.proofs.Change.{upd_all, Unique, upd_unique, same_apart}
use Rattle.bus.proofs.Attention.{Raw}
use Rattle.bus.proofs.Summary.{Good, inside, set_held, pass_good}
use Rattle.bus.proofs.ControlCalls.{set_len}
use Rattle.std.specs.Prelude.{Some, None}
use Rattle.effect.specs.Stands.{sent}

module _ (b : Bus) (I : Inv b) (p : Place) (l : p.0 < b.count) (v : ℕ) (e : Bool)
    (es : b.standing ≡ Some (sent p Command v e)) (nd : (lines b).ndac ≡ false) (em : passes_control (meaning_of v)
    ≡ true) where
  heard : Party
  heard = with_source Sgns (party_heard v (here b p.0))

  old : Party
  old = change_control Idle (with_source Sgns (party_heard v (here b p.0)))

  boss : is_active (here b p.0) ≡ true
  boss = I.pre.leads (rw es) p.0 (rw es (eq-eqb p.0 p.0 refl))

  -- TCT turns nobody's talk on or off, so at most one party talks now
  one_talks : Unique (λ x. x.role.talk) (here b)
  one_talks x y f g = I.pre.heard.one x y (seen x ∙ f) (seen y ∙ g)
    where
      seen : (k : ℕ) → (look b.standing k (here b k)).talk ≡ (here b k).role.talk
      seen k = cond-elim (λ (r : Role). r.talk ≡ (here b k).role.talk) (waits b.standing k (here b k).acceptor)
          (λ _. rw es (hear_passes (meaning_of v) (here b k).role em)) (λ _. refl)

  -- once the sender is idle nobody is in charge
  nobody : (k : ℕ) → busy (upd (here b) p.0 old k).control ≡ true → ⊥
  unfolding old
  nobody = upd_all (here b) p.0 old (λ k x. busy x.control ≡ true → ⊥) (λ h. no (cc))
      (λ k nk h. nk (I.pre.charge k p.0 h (active_busy (here b p.0) boss)))

  -- control goes to party j
  module _ (j : ℕ) (tj : (at (set b.parties p.0 idle) j).role.talk ≡ true) where
    new : Party
    new = change_control Active (here b j)

    other : j ≡ p.0 → ⊥
    other h = let z = ap (λ (w : ℕ → Party). (w j).role.talk)
        (at_set b.parties p.0 idle (inside b I p.0 l idle)) in let y = eq-eqb j p.0 h in no (cc)

    talking : (here b j).role.talk ≡ true
    talking = rw (get_or-set_other b.parties p.0 j idle idle other) at tj

    within : j < b.count
    within = test (ltb j b.count) (λ h. ltb-true j b.count h)
        (λ h. let z = ap (λ (x : Party). x.role.talk) (I.pre.tail j (ltb-false j b.count h)) in
        let y = talking in no (cc))

    room : j < length (set b.parties p.0 old)
    room = let z = set_len b I p.0 old in let y = I.small in let i = within in omega arith

    both_set : at (set (set b.parties p.0 old) j new) ≡ upd (upd (here b) p.0 old) j new
    both_set = at_set (set b.parties p.0 old) j new room
        ∙ ap (λ (w : ℕ → Party). upd w j new) (at_set b.parties p.0 old (inside b I p.0 l old))

    -- what holds of the old and the new controller and of everyone else holds of all
    each_of : (R : ℕ → Party → Type 0) → R j new → R p.0 old → ((k : ℕ) → R k (here b k)) → (k : ℕ)
        → R k (upd (upd (here b) p.0 old) j new k)
    each_of R rn ro rest = upd_all (upd (here b) p.0 old) j new R rn
        (λ k nk. upd_all (here b) p.0 old R ro (λ k nk. rest k) k)

    raw : Raw b.count (upd (upd (here b) p.0 old) j new)
    unfolding old new
    raw = record {
      tail = each_of (λ k x. b.count ≤ k → x ≡ idle) (λ h. absurd (past within h)) (λ h. absurd (past l h))
          (λ k. I.pre.tail k);
      charge = upd_unique (upd (here b) p.0 old) j new (λ x. busy x.control) (λ x y f. absurd (nobody x f))
          (λ h k f nk. nobody k f);
      addr = same_apart b.count (λ k. (here b k).role) (λ k. (upd (upd (here b) p.0 old) j new k).role)
          (each_of (λ k x. name_of x.role ≡ name_of (here b k).role) refl
          (hear_name (meaning_of v) (here b p.0).role) (λ k. refl)) I.pre.addr;
      talk = λ x y f g. one_talks x y (sym (talks x) ∙ f) (sym (talks y) ∙ g);
      apart = each_of (λ k x. Single x.role) (I.pre.apart j)
          (hear_single (meaning_of v) (here b p.0).role (I.pre.apart p.0)) I.pre.apart;
    }
      where
        past : {k : ℕ} → k < b.count → b.count ≤ k → ⊥
        past m h = omega arith

        talks : (k : ℕ) → (upd (upd (here b) p.0 old) j new k).role.talk ≡ (here b k).role.talk
        talks = each_of (λ k x. x.role.talk ≡ (here b k).role.talk) refl
            (hear_passes (meaning_of v) (here b p.0).role em) (λ k. refl)

    dropped : held b ≡ held_bytes (here b p.0) + held_bytes (here b j)
        + total b.count held_bytes (set (set b.parties p.0 old) j new)
    unfolding old new
    dropped = let h = total_set b.count held_bytes (set b.parties p.0 old) j new within room in
        let k = set_held b I p.0 l old in
        let g = ap held_bytes (get_or-set_other b.parties p.0 j old idle other) in omega arith

    passed_good : (z : After) → Good b (call_of.Of p act_of.Step) (pass b p.0
        (record { said = say ev.Ended v e 0; after = z; party = heard; standing = None }) j)
    unfolding old new heard
    passed_good z = pass_good b I p Command (held_bytes (here b p.0) + held_bytes (here b j)) v e
        (set (set b.parties p.0 old) j new)
        (length-set (set b.parties p.0 old) j new ∙ set_len b I p.0 old)
        (subst (λ (w : ℕ → Party). Raw b.count w) (sym both_set) raw)
        es nd dropped

  pub pass_to_lem : (z : After) (j : Place) → other_talker b.count p.0 b.parties ≡ Some j
      → Good b (call_of.Of p act_of.Step) (pass b p.0
      (record {
        said = say ev.Ended v e 0;
        after = z;
        party = with_source Sgns (party_heard v (here b p.0));
        standing = None;
      }) j.0)
  unfolding heard
  pass_to_lem z j h = let r = first_found 0 b.count (λ x. x.role.talk) (set b.parties p.0 idle) j h in
      let k : j.0 ≡ r.0 = omega (arith, r.1.0) in passed_good j.0 (rw k r.1.1) z
