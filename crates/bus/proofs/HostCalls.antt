-- The host calls that change nothing that delivery sees: write, read, poll register, second request, drop, and those of
-- the chip's registers and of the parallel poll.
-- Assumes nothing.
use mathlib.Core.Path.{◌≡◌, refl, sym, ◌∙◌}
use mathlib.Core.Bool.{Bool, true, false, cond}
use Prim.Native.Nat.{ℕ, ◌<◌}
use native.Mathlib.Omega.{arith}
use Rattle.party.specs.Parts.{with_input}
use Rattle.parties.specs.Lines.{lines_byte, poll_byte}
use Rattle.role.proofs.Logic.{no}
use Rattle.bus.specs.Types.{Place, Party, Byte, Bus, Act, Said}
use Rattle.bus.specs.Types.ruling
use Rattle.bus.specs.Types.ev
use Rattle.bus.specs.Types.call_of
use Rattle.bus.specs.Types.act_of
use Rattle.effect.specs.Calls.{is_accepted, is_on}
use Rattle.bus.specs.Record.{here, lines}
use Rattle.effect.specs.Effects.{say, with_standing}
use Rattle.host_calls.specs.HostCalls.{write, read_out, poll_register, second_request, drop_held, data_out, mark_end}
use Rattle.host_calls.specs.HostCalls.{own_status}
use Rattle.bus.specs.Settling.{follow}
use Rattle.refusals.specs.Refusals.{of_switch, write_refusal, own}
use Rattle.bus.specs.Machine.{view_at, verdict}
use Rattle.bus.specs.Delivery.{is_write, is_put, is_end, is_take, is_host_put, deed, neither}
use Rattle.bus.proofs.Invariant.{Inv, atn_of}
use Rattle.bus.proofs.Accepting.{if_not, known, switched}
use Rattle.bus.proofs.Summary.{Good, Fine, Becomes}
use Rattle.bus.proofs.OneParty.{Caller, Plain, plain_good, plain_same}
use Rattle.std.specs.Prelude.{Option, Some, None, Ok, Err, is_some}

-- a host call that changes what delivery does not see
plainly : (p q : Party) → q.role ≡ p.role → q.control ≡ p.control → q.acceptor ≡ p.acceptor
    → q.source ≡ p.source → (is_some p.input ≡ false → is_some q.input ≡ false) → Plain p q
plainly p q r c a s i = record {
  role = r;
  control = c;
  acceptor = a;
  input = i;
  strs = λ e. sym s ∙ e;
  stst = λ e. s ∙ e;
}

module _ (b : Bus) (I : Inv b) (p : Place) where
  -- a call that fills the held register of its party, which was empty
  fills_good : (a : Act) (q : Party) → p.0 < b.count → is_some (here b p.0).held ≡ false
      → Caller (call_of.Of p a) p.0 → is_write (call_of.Of p a) ≡ true → Plain (here b p.0) q
      → is_some q.held ≡ true
      → Becomes b (call_of.Of p a) p.0 (say ev.None 0 false 0) q
  fills_good a q l h k w P f = plain_good b (call_of.Of p a) I p.0 l (say ev.None 0 false 0) q P k refl refl refl
      (rw (w, h, f) refl)

  not_full : is_accepted (write_refusal (view_at p (lines b) b)) ≡ true → is_some (here b p.0).held ≡ false
  not_full ok = (if_not (is_some (here b p.0).held) (Ok tt) (Err ruling.Full) refl ok).0

  pub write_good : (v e : ℕ) → Fine b (call_of.Of p (act_of.Write v e))
  write_good v e ok =
      let r = known b p (of_switch e (write_refusal (view_at p (lines b) b))) ok in
      let q = (write v (is_on e) (view_at p (lines b) b)).party in
      fills_good (act_of.Write v e) q r.0 (not_full (switched e (write_refusal (view_at p (lines b) b)) r.1).1)
      (λ j x. no (cc)) refl (plainly (here b p.0) q refl refl refl refl (λ x. x)) refl

  pub out_good : (v : ℕ) → Fine b (call_of.Of p (act_of.DataOut v))
  out_good v ok =
      let r = known b p (write_refusal (view_at p (lines b) b)) ok in
      let q = (data_out v (view_at p (lines b) b)).party in
      fills_good (act_of.DataOut v) q r.0 (not_full r.1)
      (λ j x. no (cc)) refl (plainly (here b p.0) q refl refl refl refl (λ x. x)) refl

  pub read_good : Fine b (call_of.Of p act_of.Read)
  read_good ok = let r = known b p (cond (is_some (here b p.0).input) (Ok tt) (Err ruling.Empty)) ok in
      go r.0 (here b p.0).input
    where
      taken : (x : ℕ) (y : Bool) → p.0 < b.count
          → Becomes b (call_of.Of p act_of.Read) p.0 (say ev.Read x y 0) (with_input None (here b p.0))
      taken x y l = plain_good b (call_of.Of p act_of.Read) I p.0 l (say ev.Read x y 0)
          (with_input None (here b p.0))
          (plainly (here b p.0) (with_input None (here b p.0)) refl refl refl refl (λ x. refl)) (λ j x. no (cc))
          refl refl refl refl

      go : p.0 < b.count → (s : Option Byte) → Good b (call_of.Of p act_of.Read) (follow (atn_of b) b p.0
          (with_standing b.standing (read_out s (here b p.0))))
      go l None = plain_good b (call_of.Of p act_of.Read) I p.0 l (say ev.None 0 false 0) (here b p.0)
          (plainly (here b p.0) (here b p.0) refl refl refl refl (λ x. x)) (λ j x. no (cc)) refl refl refl refl
      go l (Some y) = taken y.value y.end l

  -- a call that speaks of no byte of the bus, and leaves what its party holds
  aside_good : (a : Act) (s : Said) (q : Party) → is_accepted (verdict (lines b) b (call_of.Of p a)) ≡ true
      → Caller (call_of.Of p a) p.0 → is_write (call_of.Of p a) ≡ false → deed s.event ≡ neither
      → s.dropped ≡ 0 → Plain (here b p.0) q → q.held ≡ (here b p.0).held
      → Becomes b (call_of.Of p a) p.0 s q
  aside_good a s q ok k w e d P h = plain_good b (call_of.Of p a) I p.0
      (known b p (own (view_at p (lines b) b) a) ok).0 s q P k
      (rw (e, is_put) refl) (rw (e, is_end) refl) (rw (e, is_take) refl) (rw (w, e, is_host_put, d, h) refl)

  pub poll_good : (v : ℕ) → Fine b (call_of.Of p (act_of.PollRegister v))
  poll_good v ok = let q = (poll_register v (view_at p (lines b) b)).party in
      aside_good (act_of.PollRegister v) (say ev.None 0 false 0) q ok (λ j x. no (cc)) refl refl refl
      (plainly (here b p.0) q refl refl refl refl (λ x. x)) refl

  pub request_good : (on : ℕ) → Fine b (call_of.Of p (act_of.SecondRequest on))
  request_good on ok = let q = (second_request (is_on on) (view_at p (lines b) b)).party in
      aside_good (act_of.SecondRequest on) (say ev.None 0 false 0) q ok (λ j x. no (cc)) refl refl refl
      (plainly (here b p.0) q refl refl refl refl (λ x. x)) refl

  pub mark_good : Fine b (call_of.Of p act_of.MarkEnd)
  mark_good ok = let q = (mark_end (view_at p (lines b) b)).party in
      aside_good act_of.MarkEnd (say ev.None 0 false 0) q ok (λ j x. no (cc)) refl refl refl
      (plainly (here b p.0) q refl refl refl refl (λ x. x)) refl

  pub status_good : Fine b (call_of.Of p act_of.BusStatus)
  status_good ok = aside_good act_of.BusStatus (say ev.Lines (lines_byte (lines b)) false 0) (here b p.0) ok
      (λ j x. no (cc)) refl refl refl (plain_same (here b p.0)) refl

  pub nothing_good : Fine b (call_of.Of p act_of.DoNothing)
  nothing_good ok = aside_good act_of.DoNothing (say ev.None 0 false 0) (here b p.0) ok
      (λ j x. no (cc)) refl refl refl (plain_same (here b p.0)) refl

  -- no such register: never accepted
  pub register_good : Fine b (call_of.Of p act_of.NoRegister)
  register_good ok = let r = (known b p (Err ruling.NoReg) ok).1 in no (cc)

  pub own_good : (on : ℕ) → Fine b (call_of.Of p (act_of.OwnStatus on))
  own_good on ok = let q = (own_status (is_on on) (view_at p (lines b) b)).party in
      aside_good (act_of.OwnStatus on) (say ev.None 0 false 0) q ok (λ j x. no (cc)) refl refl refl
      (plainly (here b p.0) q refl refl refl refl (λ x. x)) refl

  pub parallel_good : Fine b (call_of.Of p act_of.ParallelPoll)
  parallel_good ok = aside_good act_of.ParallelPoll (say ev.Lines (poll_byte b.count b.parties) false 0)
      (here b p.0) ok (λ j x. no (cc)) refl refl refl (plain_same (here b p.0)) refl

  pub drop_good : Fine b (call_of.Of p act_of.Drop)
  drop_good ok = plain_good b (call_of.Of p act_of.Drop) I p.0 (known b p (Ok tt) ok).0
      (drop_held (view_at p (lines b) b)).said (drop_held (view_at p (lines b) b)).party
      (plainly (here b p.0) (drop_held (view_at p (lines b) b)).party refl refl refl refl (λ x. x)) (λ j x. no (cc))
      refl refl refl (omega arith)
