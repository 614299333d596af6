-- The answer of a parallel poll, and lists with polls and without them.
-- Assumes nothing.
use mathlib.Core.Path.{◌≡◌, refl, sym, ap, ◌∙◌, subst}
use mathlib.Core.Bool.{Bool, true, false, cond, ◌&&◌}
use mathlib.Core.List.{List, [], ◌∷◌}
use Prim.Native.Nat.{ℕ, ◌+◌, ◌/◌, ◌%◌, ◌^◌, ◌≤◌, ◌<◌}
use native.Mathlib.Omega.{arith}
use native.Mathlib.Nat.{zero-add}
use Rattle.std.specs.Prelude.{Option, Some, None, Ok}
use lib.Dec.{ltb, eqb}
use borrow.Author.Tests.{ltb-true, ltb-false, lt-ltb, eqb-true, eq-eqb}
use Rattle.role.specs.declared.Response.{Response}
use Rattle.role.specs.Roles.{agrees, answers_on}
use Rattle.role.proofs.Logic.{no, test, cond-elim}
use Rattle.party.specs.Parts.{one}
use Rattle.party.proofs.Settled.{source_of_active}
use Rattle.party.specs.Driving.{is_active, answers_poll}
use Rattle.parties.specs.Lines.{line_on, poll_byte}
use Rattle.parties.proofs.Places.{some_at, some_true}
use Rattle.parties.proofs.Bits.{bits_lt, bit_at}
use Rattle.effect.specs.Calls.{is_accepted}
use Rattle.effect.specs.Stands.{stands, sends_command, of_command}
use Rattle.effect.specs.Effects.{say}
use Rattle.refusals.specs.Refusals.{is_inside, of_party, active_refusal}
use Rattle.bus.specs.declared.Bus.{Bus}
use Rattle.bus.specs.declared.Answer.{Answer}
use Rattle.bus.specs.Types.{Place, Standing, Verdict, Call}
use Rattle.bus.specs.Types.ev
use Rattle.bus.specs.Types.call_of
use Rattle.bus.specs.Types.act_of
use Rattle.bus.specs.Record.{here, lines, silent as unmoved}
use Rattle.bus.specs.Settling.{answered}
use Rattle.bus.specs.Machine as m
use Rattle.bus.specs.Delivery.{Moment, history, tally, is_put, is_end, is_host_put, wrote}
use Rattle.bus.proofs.Invariant.{Inv, atn_of, stands_of}
use Rattle.bus.proofs.EachCall.{call_good}
use Rattle.bus.proofs.Reached.{one_source_lem, sender_is_source}
use Rattle.runner.proofs.Led.{led_inv}
use Rattle.driver_laws.proofs.Laws.{still}
use Rattle.poll_laws.specs.Polls.{poll_by, RefusedAsSaid, AnswersOn, Polled, LinesAnswered, PollLeaves, is_poll}
use Rattle.poll_laws.specs.Polls.{without_polls, others, PollsUnseen, TotalsUnchanged}

-- what an accepted poll answers
abbrev told : Bus → Answer
told b = answered false (say ev.Lines (poll_byte b.count b.parties) false 0) b

answer_of_lem : (b : Bus) → Inv b → (p : Place)
    → m.call b (poll_by p) ≡ m.judged (m.verdict (lines b) b (poll_by p)) b (told b)
answer_of_lem b I p = ap (m.judged (m.verdict (lines b) b (poll_by p)) b)
    (still b I p.0 (say ev.Lines (poll_byte b.count b.parties) false 0))

leaves : (b : Bus) → Inv b → (p : Place) → (m.call b (poll_by p)).bus ≡ b
leaves b I p = rw (answer_of_lem b I p)
    (cond-elim (λ (a : Answer). a.bus ≡ b) (is_accepted (m.verdict (lines b) b (poll_by p))) (λ _. refl) (λ _. refl))

pub poll_leaves : PollLeaves
poll_leaves b led p = leaves b (led_inv b led) p

-- What stands while a party is active is its own command.
own_command : (b : Bus) → Inv b → (i : ℕ) → is_active (here b i) ≡ true → (st : Option Standing) → b.standing ≡ st
    → sends_command i st ≡ stands st
own_command b I i a None e = refl
own_command b I i a (Some st) e =
    let command : of_command st.kind ≡ true = sym (ap (stands_of of_command) e) ∙ I.pre.kind (rw e)
    ∙ I.pre.atn_if i a in
    let same = one_source_lem b I i st.sender.0 (source_of_active (atn_of b) (here b i) a)
    (sender_is_source b I st.sender st.kind st.value st.end e) in
    rw (command, eq-eqb i st.sender.0 same) refl

inside_count : (i n : ℕ) → n ≤ 15 → is_inside n i ≡ ltb i n
inside_count i n l = test (ltb i n)
    (λ h. let k = ltb-true i n h in rw (lt-ltb i 15 (omega arith)) refl)
    (λ h. rw h (either (ltb i 15)))
  where
    either : (x : Bool) → (x && false) ≡ false
    either true = refl
    either false = refl

ruled : (x y z : Bool) (b : Bus) (a : Answer) → a.verdict ≡ Ok tt
    → (m.judged (of_party x (active_refusal y z)) b a).verdict ≡ of_party x (active_refusal y z)
ruled false y z b a e = refl
ruled true false z b a e = refl
ruled true true true b a e = refl
ruled true true false b a e = e

pub refused_as_said : RefusedAsSaid
refused_as_said b led p =
    ap (λ (a : Answer). a.verdict) (answer_of_lem b I p)
    ∙ ruled (is_inside b.count i) (is_active (here b i)) (sends_command i b.standing) b (told b) refl
    ∙ rw (inside_count i b.count I.small) (go (is_active (here b i)) refl)
  where
    I : Inv b
    I = led_inv b led

    i : ℕ
    i = p.0

    go : (x : Bool) → is_active (here b i) ≡ x
        → of_party (ltb i b.count) (active_refusal x (sends_command i b.standing))
        ≡ of_party (ltb i b.count) (active_refusal x (stands b.standing))
    go true h = rw (own_command b I i h b.standing refl) refl
    go false h = refl

-- A status that agrees is the sense.
agreed : (k : ℕ) (x : Bool) (r : Option Response) → answers_on k x r ≡ true → r ≡ Some (record { sense = x; line = k })
agreed k x None e = no (cc)
agreed k x (Some r) e = go (eqb k r.line) refl x r.sense e
  where
    go : (y : Bool) → eqb k r.line ≡ y → (x sense : Bool) → (y && agrees x sense) ≡ true
        → ◌≡◌ {A = Option Response} (Some (record { sense = sense; line = r.line }))
        (Some (record { sense = x; line = k }))
    go true h true true f = rw (eqb-true k r.line h) refl
    go true h false false f = rw (eqb-true k r.line h) refl
    go y h x sense f = no (cc)

agreeing : (k : ℕ) (x : Bool) → answers_on k x (Some (record { sense = x; line = k })) ≡ true
agreeing k true = rw (eq-eqb k k refl) refl
agreeing k false = rw (eq-eqb k k refl) refl

-- bit k of the byte is line k
bit_of : (b : Bus) (k : ℕ) → k < 8 → poll_byte b.count b.parties / 2 ^ k % 2 ≡ one (line_on b.count b.parties
    k)
bit_of b k l = bit_at 0 8 k (line_on b.count b.parties)
    ∙ rw (lt-ltb k 8 l) (ap (λ (j : ℕ). one (line_on b.count b.parties j)) (zero-add k))

is_one : (x : Bool) → one x ≡ 1 → x ≡ true
is_one true e = refl
is_one false e = no (cc)

polled : (b : Bus) → Inv b → Polled b (told b)
polled b I = record {
  event = refl;
  end = refl;
  dropped = refl;
  broken = refl;
  eight = bits_lt 0 8 (line_on b.count b.parties);
  someone = λ k l e. found k (some_true b.count (answers_poll k) b.parties (is_one _ (sym (bit_of b k l) ∙ e)));
  on = λ k i l h. bit_of b k l ∙ ap one (some_at b.count (answers_poll k) b.parties refl i h.0
      (rw h.1 (agreeing k (here b i).latches.ist)));
}
  where
    found : (k : ℕ) → (j : ℕ) × (answers_poll k (here b j) ≡ true) → (i : ℕ) × AnswersOn b k i
    found k (j, e) = (j, (inside, agreed k (here b j).latches.ist (here b j).role.response e))
      where
        inside : j < b.count
        inside = test (ltb j b.count) (λ h. ltb-true j b.count h)
            (λ h. let z = ap (answers_poll k) (I.pre.tail j (ltb-false j b.count h)) in no (cc))

pub lines_answered : LinesAnswered
lines_answered b led p ok = go (is_accepted r) refl
  where
    I : Inv b
    I = led_inv b led

    r : Verdict
    r = m.verdict (lines b) b (poll_by p)

    go : (x : Bool) → is_accepted r ≡ x → Polled b (m.call b (poll_by p))
    go true e = subst (Polled b) (sym (answer_of_lem b I p ∙ rw e refl)) (polled b I)
    go false e =
        let q : m.call b (poll_by p) ≡ unmoved r b = answer_of_lem b I p ∙ rw e refl in
        let z : r ≡ Ok tt = sym (ap (λ (a : Answer). a.verdict) q) ∙ ok in
        let y = ap is_accepted z in no (cc)

is_poll_lem : (c : Call) → is_poll c ≡ true → (p : Place) × (c ≡ poll_by p)
is_poll_lem (call_of.Of p act_of.ParallelPoll) e = (p, refl)
is_poll_lem c e = no (cc)

-- a poll leaves the bus, whichever call of a list it is
poll_bus : (b : Bus) → Inv b → (c : Call) → is_poll c ≡ true → (m.call b c).bus ≡ b
poll_bus b I c h = let q = is_poll_lem c h in ap (λ (d : Call). (m.call b d).bus) q.1 ∙ leaves b I q.0

unseen : (b : Bus) → Inv b → (cs : List Call)
    → (m.run b cs ≡ m.run b (without_polls cs)) × (others (history b cs) ≡ history b (without_polls cs))
unseen b I [] = (refl, refl)
unseen b I (c ∷ cs) = go (is_poll c) refl (unseen b I cs) (unseen (m.call b c).bus (call_good b I c).inv cs)
  where
    Seen : Bus → Type 0
    Seen x = (m.run x cs ≡ m.run x (without_polls cs)) × (others (history x cs) ≡ history x (without_polls cs))

    go : (x : Bool) → is_poll c ≡ x → Seen b → Seen (m.call b c).bus
        → (m.run (m.call b c).bus cs ≡ m.run b (cond x (without_polls cs) (c ∷ without_polls cs)))
        × (cond x (others (history (m.call b c).bus cs)) (record { before = b; call = c; answer = m.call b c }
        ∷ others (history (m.call b c).bus cs)) ≡ history b (cond x (without_polls cs) (c ∷ without_polls cs)))
    go true h s t = let e = poll_bus b I c h in (
      ap (λ (x : Bus). m.run x cs) e ∙ s.0,
      ap (λ (x : Bus). others (history x cs)) e ∙ s.1,
    )
    go false h s t = (t.0, ap (λ (xs : List Moment). record { before = b; call = c; answer = m.call b c } ∷ xs) t.1)

pub polls_unseen : PollsUnseen
polls_unseen b led cs = unseen b (led_inv b led) cs

-- A figure that no poll adds to is the same without the polls.
module _ (f : Moment → ℕ)
    (none : (b : Bus) → Inv b → (p : Place)
    → f (record { before = b; call = poll_by p; answer = m.call b (poll_by p) }) ≡ 0) where
  uncounted : (b : Bus) → Inv b → (cs : List Call) → tally f (history b cs) ≡ tally f (history b (without_polls cs))
  uncounted b I [] = refl
  uncounted b I (c ∷ cs) = go (is_poll c) refl (uncounted b I cs)
      (uncounted (m.call b c).bus (call_good b I c).inv cs)
    where
      now : Call → ℕ
      now d = f (record { before = b; call = d; answer = m.call b d })

      go : (x : Bool) → is_poll c ≡ x → tally f (history b cs) ≡ tally f (history b (without_polls cs))
          → tally f (history (m.call b c).bus cs) ≡ tally f (history (m.call b c).bus (without_polls cs))
          → f (record { before = b; call = c; answer = m.call b c }) + tally f (history (m.call b c).bus cs)
          ≡ tally f (history b (cond x (without_polls cs) (c ∷ without_polls cs)))
      go true h s t =
          let q = is_poll_lem c h in
          let z : f (record { before = b; call = c; answer = m.call b c }) ≡ 0 = ap now q.1 ∙ none b I q.0 in
          let e = ap (λ (x : Bus). tally f (history x cs)) (poll_bus b I c h) in
          omega (arith, z, e, s)
      go false h s t = ap (λ (n : ℕ). f (record { before = b; call = c; answer = m.call b c }) + n) t

-- what is 0 in both answers that a poll can have
silent : (f : Answer → ℕ) → ((b : Bus) → f (told b) ≡ 0) → ((r : Verdict) (b : Bus) → f (unmoved r b) ≡ 0)
    → (b : Bus) → Inv b → (p : Place) → f (m.call b (poll_by p)) ≡ 0
silent f t n b I p = ap f (answer_of_lem b I p) ∙ cond-elim (λ (a : Answer). f a ≡ 0)
    (is_accepted (m.verdict (lines b) b (poll_by p))) (λ _. t b) (λ _. n (m.verdict (lines b) b (poll_by p)) b)

pub totals_unchanged : TotalsUnchanged
totals_unchanged b led cs = let I = led_inv b led in record {
  puts = uncounted (λ x. one (is_put x.answer.event))
      (silent (λ a. one (is_put a.event)) (λ b. refl) (λ r b. refl)) b I cs;
  ended = uncounted (λ x. one (is_end x.answer.event))
      (silent (λ a. one (is_end a.event)) (λ b. refl) (λ r b. refl)) b I cs;
  broken = uncounted (λ x. x.answer.broken) (silent (λ a. a.broken) (λ b. refl) (λ r b. refl)) b I cs;
  written = uncounted (λ x. wrote x.call x.answer.verdict) (λ b I p. refl) b I cs;
  host_puts = uncounted (λ x. one (is_host_put x.answer.event))
      (silent (λ a. one (is_host_put a.event)) (λ b. refl) (λ r b. refl)) b I cs;
  dropped = uncounted (λ x. x.answer.dropped) (silent (λ a. a.dropped) (λ b. refl) (λ r b. refl)) b I cs;
}
