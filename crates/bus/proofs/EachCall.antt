-- Every call keeps the invariant and has its summary; so has every call of a list. And the totals.
-- Assumes nothing.
use mathlib.Core.Path.{◌≡◌, refl}
use mathlib.Core.List.{List, [], ◌∷◌}
use Prim.Native.Nat.{ℕ, zero, suc, ◌+◌, ◌<◌}
use native.Mathlib.Omega.{arith}
use native.Mathlib.Nat.{not-suc-le-zero, le_of_suc-le-suc}
use lib.ListN.{length, get_or}
use Rattle.party.specs.Parts.{one}
use Rattle.party.specs.Sending.{is_source}
use Rattle.role.proofs.Logic.{cond-elim}
use Rattle.bus.specs.Types.{Place, Bus, Answer, Call, Standing, Effect}
use Rattle.bus.specs.Types.call_of
use Rattle.bus.specs.Types.act_of
use Rattle.bus.specs.Record.{here, lines}
use Rattle.effect.specs.Stands.{stands}
use Rattle.bus.specs.Settling.{follow}
use Rattle.bus.specs.Machine.{verdict}
use Rattle.bus.specs.Machine as m
use Rattle.bus.specs.Delivery.{Moment, history, is_put, is_end, is_host_put, wrote, tally, held}
use Rattle.bus.proofs.Invariant.{Inv, atn_of}
use Rattle.bus.proofs.Accepting.{known}
use Rattle.bus.proofs.Summary.{Good, Fine, Shape, keeps, puts, ends, breaks}
use Rattle.bus.proofs.OneParty.{ruled}
use Rattle.bus.proofs.HostCalls.{write_good, read_good, poll_good, request_good, drop_good}
use Rattle.bus.proofs.HostCalls.{out_good, mark_good, status_good, nothing_good, register_good, own_good}
use Rattle.bus.proofs.HostCalls.{parallel_good}
use Rattle.bus.proofs.Switches.{listen_good, talk_good}
use Rattle.bus.proofs.ControlCalls.{take_good, standby_good, reset_good, clear_good, lines_good, drivers_good}
use Rattle.bus.proofs.AcceptorStep.{accept_good}
use Rattle.bus.proofs.SourceStep.{source_good}
use Rattle.std.specs.Prelude.{Option, Ok}

step_good : (b : Bus) → Inv b → (p : Place) → Fine b (call_of.Of p act_of.Step)
step_good b I p ok = let l = (known b p (Ok tt) ok).0 in
    cond-elim (λ (e : Effect). Good b (call_of.Of p act_of.Step) (follow (atn_of b) b p.0 e))
    (is_source (atn_of b) (here b p.0))
    (λ so. source_good b I p l so (here b p.0).source refl)
    (λ ns. accept_good b I p l ns (here b p.0).acceptor refl)

accepted_good : (b : Bus) → Inv b → (c : Call) → Fine b c
accepted_good b I (call_of.Of p act_of.Step) = step_good b I p
accepted_good b I (call_of.Of p (act_of.Write v e)) = write_good b I p v e
accepted_good b I (call_of.Of p act_of.Read) = read_good b I p
accepted_good b I (call_of.Of p (act_of.PollRegister v)) = poll_good b I p v
accepted_good b I (call_of.Of p (act_of.ListenOnly on)) = listen_good b I p on
accepted_good b I (call_of.Of p (act_of.TalkOnly on)) = talk_good b I p on
accepted_good b I (call_of.Of p act_of.TakeControl) = take_good b I p
accepted_good b I (call_of.Of p act_of.GoToStandby) = standby_good b I p
accepted_good b I (call_of.Of p act_of.InterfaceClear) = clear_good b I p
accepted_good b I (call_of.Of p act_of.Reset) = reset_good b I p
accepted_good b I (call_of.Of p act_of.Drop) = drop_good b I p
accepted_good b I (call_of.Of p (act_of.SecondRequest on)) = request_good b I p on
accepted_good b I (call_of.Of p (act_of.DataOut v)) = out_good b I p v
accepted_good b I (call_of.Of p act_of.MarkEnd) = mark_good b I p
accepted_good b I (call_of.Of p act_of.BusStatus) = status_good b I p
accepted_good b I (call_of.Of p act_of.DoNothing) = nothing_good b I p
accepted_good b I (call_of.Of p act_of.NoRegister) = register_good b I p
accepted_good b I (call_of.Of p (act_of.OwnStatus on)) = own_good b I p on
accepted_good b I (call_of.Of p act_of.ParallelPoll) = parallel_good b I p
accepted_good b I call_of.Lines = λ _. lines_good b I
accepted_good b I call_of.Drivers = λ _. drivers_good b I

pub call_good : (b : Bus) → Inv b → (c : Call) → Good b c (m.call b c)
call_good b I c = ruled b c I (verdict (lines b) b c) (m.accepted (lines b) b c) (accepted_good b I c)

-- the invariant at the end of a list
pub run_inv : (b : Bus) → Inv b → (cs : List Call) → Inv (m.run b cs)
run_inv b I [] = I
run_inv b I (c ∷ cs) = run_inv (m.call b c).bus (call_good b I c).inv cs

-- every call of a list, with d for what stands past its end
pub all_good : (b : Bus) → Inv b → (cs : List Call) (d : Moment) (k : ℕ) → k < length cs
    → Good (get_or (history b cs) k d).before (get_or (history b cs) k d).call (get_or (history b cs) k d).answer
all_good b I [] d k h = absurd (not-suc-le-zero h)
all_good b I (c ∷ cs) d zero h = call_good b I c
all_good b I (c ∷ cs) d (suc k) h = all_good (m.call b c).bus (call_good b I c).inv cs d k (le_of_suc-le-suc h)

-- each call gets the bus of the answer before
pub linked : (b : Bus) (cs : List Call) (d : Moment) (k : ℕ) → suc k < length cs
    → (get_or (history b cs) (suc k) d).before ≡ (get_or (history b cs) k d).answer.bus
linked b [] d k h = absurd (not-suc-le-zero h)
linked b (c ∷ []) d k h = absurd (not-suc-le-zero (le_of_suc-le-suc h))
linked b (c ∷ (e ∷ cs)) d zero h = refl
linked b (c ∷ (e ∷ cs)) d (suc k) h = linked (m.call b c).bus (e ∷ cs) d k (le_of_suc-le-suc h)

pub first : (b : Bus) (cs : List Call) (d : Moment) → d.before ≡ b → (get_or (history b cs) 0 d).before ≡ b
first b [] d e = e
first b (c ∷ cs) d e = refl

-- the totals, from any bus
shape_total : (st : Option Standing) (c : Call) (a : Answer) → Shape st c a
    → one (is_put a.event) + one (stands st) ≡ one (is_end a.event) + a.broken + one (stands a.bus.standing)
shape_total st c a (keeps p e k s) = rw (p, e, k, s) refl
shape_total st c a (puts p e k n r d w s) = rw (p, e, k, n, s) refl
shape_total st c a (ends p e k r d w n s) = rw (p, e, k, n, s) refl
shape_total st c a (breaks p e k u s) = rw (p, e, k, u, s) refl

pub put_total : (b : Bus) → Inv b → (cs : List Call)
    → tally (λ x. one (is_put x.answer.event)) (history b cs) + one (stands b.standing)
    ≡ tally (λ x. one (is_end x.answer.event)) (history b cs) + tally (λ x. x.answer.broken) (history b cs)
    + one (stands (m.run b cs).standing)
put_total b I [] = refl
put_total b I (c ∷ cs) = let g = call_good b I c in let h = shape_total b.standing c (m.call b c) g.shape in
    let k = put_total (m.call b c).bus g.inv cs in omega arith

pub byte_total : (b : Bus) → Inv b → (cs : List Call)
    → tally (λ x. wrote x.call x.answer.verdict) (history b cs) + held b
    ≡ tally (λ x. one (is_host_put x.answer.event)) (history b cs) + tally (λ x. x.answer.dropped) (history b cs)
    + held (m.run b cs)
byte_total b I [] = refl
byte_total b I (c ∷ cs) = let g = call_good b I c in let h = g.bytes in
    let k = byte_total (m.call b c).bus g.inv cs in omega arith
