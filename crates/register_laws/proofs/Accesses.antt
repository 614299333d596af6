-- Each access is the call that it stands for.
-- Assumes nothing.
use Prim.Native.Nat.{ℕ, zero, suc}
use mathlib.Core.Path.{◌≡◌, refl, sym, ap, ◌∙◌}
use mathlib.Core.Bool.{Bool, true, false, not, cond}
use mathlib.Core.List.{List, [], ◌∷◌, map}
use mathlib.Core.Logic.{inl, inr}
use Rattle.std.specs.Prelude.{Option, Some, None, Ok, Err}
use lib.ListN.{set}
use lib.Seq.{set-get_or}
use Rattle.role.proofs.Logic.{no, test}
use Rattle.offer.specs.Offer.{byte}
use Rattle.party.specs.Parts.{one, idle, with_held}
use Rattle.party.specs.Sending.{is_source}
use Rattle.party.specs.Settling.{settled}
use Rattle.parties.specs.Places.{at, each}
use Rattle.effect.specs.Calls.{is_accepted, is_on}
use Rattle.effect.specs.Effects.{say}
use Rattle.refusals.specs.Refusals.{is_inside, write_refusal, of_party, of_switch}
use Rattle.host_calls.specs.HostCalls.{marked_end}
use Rattle.registers.specs.Registers.{auxiliary_of, stands_for}
use Rattle.bus.specs.declared.Bus.{Bus}
use Rattle.bus.specs.declared.Answer.{Answer}
use Rattle.bus.specs.Types.{Place, Party, Standing, Said, Act, Verdict}
use Rattle.bus.specs.Types.ruling
use Rattle.bus.specs.Types.ev
use Rattle.bus.specs.Types.call_of
use Rattle.bus.specs.Types.act_of
use Rattle.bus.specs.Record.{here, lines, accept}
use Rattle.bus.specs.Settling.{deserted, settle_bus}
use Rattle.bus.specs.Machine as m
use Rattle.bus.proofs.Theorem.{delivery}
use Rattle.runner.specs.Lists.{LedTo}
use Rattle.driver_laws.proofs.Laws.{changes_nothing}
use Rattle.state_laws.proofs.Answers.{Met, call_met}
use Rattle.register_laws.specs.Accesses.{with_end_mark, answered_with_end_mark, marked_write, Accesses, EachAccess}
use Rattle.register_laws.specs.Accesses.{NobodyThere, call_for, AccessesDelivered}
use Rattle.register_laws.proofs.Decoding.{not_carried, carried_not}

-- A party marked or unmarked settles, and is a source, as before.
module _ (on : Bool) (q : Party) where
  source_alike : (t : Bool) (ps : List Party) (i j : ℕ)
      → is_source t (at (set ps i (marked_end on q)) j) ≡ is_source t (at (set ps i q) j)
  source_alike t [] i j = refl
  source_alike t (p ∷ ps) zero zero = refl
  source_alike t (p ∷ ps) zero (suc j) = refl
  source_alike t (p ∷ ps) (suc i) zero = refl
  source_alike t (p ∷ ps) (suc i) (suc j) = source_alike t ps i j

  deserted_alike : (t : Bool) (ps : List Party) (i : ℕ) (st : Option Standing)
      → deserted t (set ps i (marked_end on q)) st ≡ deserted t (set ps i q) st
  deserted_alike t ps i None = refl
  deserted_alike t ps i (Some st) = ap not (source_alike t ps i st.sender.0)

  settled_alike : (n : ℕ) (t : Bool) (ps : List Party) (i : ℕ) → let after = each n (settled t) (set ps i q) in
      each n (settled t) (set ps i (marked_end on q)) ≡ set after i (marked_end on (at after i))
  settled_alike zero t [] i = refl
  settled_alike zero t (p ∷ ps) zero = refl
  settled_alike zero t (p ∷ ps) (suc i) = ap (λ (xs : List Party). p ∷ xs) (settled_alike zero t ps i)
  settled_alike (suc n) t [] i = refl
  settled_alike (suc n) t (p ∷ ps) zero = refl
  settled_alike (suc n) t (p ∷ ps) (suc i) = ap (λ (xs : List Party). settled t p ∷ xs) (settled_alike n t ps i)

  marking : (t : Bool) (b : Bus) (i : ℕ) (s : Said) (st : Option Standing)
      → settle_bus t b s (set b.parties i (marked_end on q)) st
      ≡ answered_with_end_mark on i (settle_bus t b s (set b.parties i q) st)
  marking t b i s st = rw (deserted_alike t b.parties i st, settled_alike b.count t b.parties i) refl

-- what is accepted is marked, and what is refused is left
judged_marked : (i : ℕ) (r : Verdict) (b : Bus) (x y : Answer) → x.verdict ≡ Ok tt
    → y ≡ answered_with_end_mark false i x
    → m.judged r b y ≡ cond (is_accepted (m.judged r b x).verdict) (answered_with_end_mark false i (m.judged r b x))
    (m.judged r b x)
judged_marked i r b x y a e = test (is_accepted r)
    (λ h. rw h (e ∙ ap (λ (s : Verdict). cond (is_accepted s) (answered_with_end_mark false i x) x) (sym a)))
    (λ h. rw (h, h) refl)

-- the mark as an END that the host gives
no_switch : (on : Bool) (r : Verdict) → of_switch (one on) r ≡ r
no_switch true r = refl
no_switch false r = refl

on_one : (on : Bool) → is_on (one on) ≡ on
on_one true = refl
on_one false = refl

module _ (b : Bus) (p : Place) where
  data_out_lem : (v : ℕ) → m.call b (call_of.Of p (act_of.DataOut v))
      ≡ cond (is_accepted (marked_write b p v).verdict) (answered_with_end_mark false p.0 (marked_write b p v))
      (marked_write b p v)
  data_out_lem v =
      let on = (here b p.0).latches.feoi in
      let view = m.view_at p (lines b) b in
      let q = with_held (Some (byte v on)) (here b p.0) in
      let s = say ev.None 0 false 0 in
      let x = settle_bus (lines b).atn b s (set b.parties p.0 q) b.standing in
      rw (no_switch on (write_refusal view), on_one on)
      (judged_marked p.0 (of_party (is_inside b.count p.0) (write_refusal view)) b x _ refl
      (marking false q (lines b).atn b p.0 s b.standing))

  -- NOREG comes of no other act
  for_register : (a : Act) → (m.call b (call_of.Of p a)).verdict ≡ Err ruling.NoReg → a ≡ act_of.NoRegister
  for_register a e = go (call_met b (call_of.Of p a))
    where
      go : Met (call_of.Of p a) (m.call b (call_of.Of p a)).verdict → a ≡ act_of.NoRegister
      go (inl h) = let z : false ≡ true = rw e at h in no (cc)
      go (inr h) = let q = h.1.1 in cc

  module _ (inside : is_inside b.count p.0 ≡ true) where
    status : m.call b (call_of.Of p act_of.BusStatus) ≡ m.call b call_of.Lines
    status = rw (inside, set-get_or b.parties p.0 idle, set-get_or b.parties 0 idle) refl

    nothing : m.call b (call_of.Of p act_of.DoNothing) ≡ m.call b call_of.Drivers
    nothing = rw (inside, set-get_or b.parties p.0 idle, set-get_or b.parties 0 idle) refl

    mark : m.call b (call_of.Of p act_of.MarkEnd)
        ≡ answered_with_end_mark true p.0 (m.call b (call_of.Of p act_of.DoNothing))
    mark = rw inside (marking true (here b p.0) (lines b).atn b p.0 (say ev.None 0 false 0) b.standing)

    module _ (led : LedTo b) where
      nothing_done : m.call b (call_of.Of p act_of.DoNothing) ≡ accept b
      nothing_done = nothing ∙ changes_nothing b led

      marked_end_lem : m.call b (call_of.Of p act_of.MarkEnd) ≡ accept (with_end_mark true p.0 b)
      marked_end_lem = mark ∙ ap (answered_with_end_mark true p.0) nothing_done

      of_access : Accesses b p
      unfolding auxiliary_of
      of_access = record {
        status = status;
        input = refl;
        poll = λ v. refl;
        out = data_out_lem;
        lon = λ v e. rw e refl;
        ton = λ v e. rw e refl;
        rsv2 = λ v e. rw e refl;
        swrst = λ v e s. rw (e, s) refl;
        swrst_cleared = λ v e s. rw (e, s) nothing_done;
        sic = λ v e s. rw (e, s) refl;
        sic_cleared = λ v e s. rw (e, s) nothing_done;
        nbaf = λ v e. rw e refl;
        gts = λ v e. rw e refl;
        tca = λ v e. rw e refl;
        feoi = λ v e. rw e marked_end_lem;
        no_reg = λ a e. rw (not_carried a e, inside) refl;
        no_other = λ a e. carried_not a (for_register (stands_for a) e);
      }

pub each_access : EachAccess
each_access b led p inside = of_access b p inside led

pub nobody_there : NobodyThere
nobody_there b p h a = rw h refl

pub accesses_delivered : AccessesDelivered
accesses_delivered names system ok xs = delivery names system ok (map call_for xs)
