-- What lists of calls say of the mark of feoi.
-- Assumes nothing.
use Prim.Native.Nat.{ℕ, ◌<◌}
use native.Mathlib.Omega.{arith}
use mathlib.Core.Path.{◌≡◌, refl, ap, ◌∙◌}
use mathlib.Core.Bool.{Bool, true, false}
use Rattle.std.specs.Prelude.{Option, Some, Ok}
use lib.ListN.{length, set}
use lib.Seq.{get_or-set_same}
use Rattle.role.proofs.Logic.{no, cond-elim}
use Rattle.offer.specs.Offer.{byte}
use Rattle.party.specs.Parts.{idle, with_held}
use Rattle.party.specs.Settling.{settled}
use Rattle.parties.specs.Places.{place}
use Rattle.parties.proofs.Places.{each_part}
use Rattle.effect.specs.Calls.{is_accepted}
use Rattle.refusals.specs.Refusals.{own}
use Rattle.host_calls.specs.HostCalls.{marked_end}
use Rattle.bus.specs.declared.Bus.{Bus}
use Rattle.bus.specs.declared.Answer.{Answer}
use Rattle.bus.specs.Types.{Party, Byte, Call}
use Rattle.bus.specs.Types.call_of
use Rattle.bus.specs.Types.act_of
use Rattle.bus.specs.Record.{here, lines}
use Rattle.bus.specs.Machine as m
use Rattle.bus.proofs.Accepting.{known}
use Rattle.bus.proofs.Invariant.{Inv}
use Rattle.runner.specs.Lists as lists
use Rattle.runner.specs.Lists.{led_by}
use Rattle.runner.proofs.Led.{led_inv}
use Rattle.turn_laws.proofs.Latched.{as_told}
use Rattle.register_laws.specs.Marks.{end_mark_at, end_mark_by, MarkedAsTold, EndAsMarked}

pub marked_as_told : MarkedAsTold
marked_as_told = as_told (λ l. l.feoi) end_mark_by (λ p a l. refl) refl

-- the byte that was accepted is held with END as marked
held_out : (b : Bus) → Inv b → (q v : ℕ) → (m.call b (call_of.Of (place q) (act_of.DataOut v))).verdict ≡ Ok tt
    → (here (m.call b (call_of.Of (place q) (act_of.DataOut v))).bus q).held ≡ Some (byte v (end_mark_at b q))
held_out b I q v = cond-elim
    (λ (a : Answer). a.verdict ≡ Ok tt → (here a.bus q).held ≡ Some (byte v (end_mark_at b q)))
    (is_accepted (m.verdict (lines b) b c))
    (λ ok _. each_part held_of b.count (settled (lines b).atn) (set b.parties q new) (λ p. refl) q
    ∙ ap held_of (get_or-set_same b.parties q new idle (fits ok)))
    (λ bad e. no (cc))
  where
    c : Call
    c = call_of.Of (place q) (act_of.DataOut v)

    held_of : Party → Option Byte
    held_of p = p.held

    new : Party
    new = marked_end false (with_held (Some (byte v (end_mark_at b q))) (here b q))

    fits : is_accepted (m.verdict (lines b) b c) ≡ true → q < length b.parties
    fits ok = let l = (known b (place q) (own (m.view_at (place q) (lines b) b) (act_of.DataOut v)) ok).0 in
        let s = I.small in rw I.size (omega arith)

pub end_as_marked : EndAsMarked
end_as_marked names b start tie xs q v ok =
    held_out (led_by tie b xs) (led_inv (led_by tie b xs) (names, lists.led start tie xs)) q v ok
    ∙ ap (λ (on : Bool). Some (byte v on)) (marked_as_told names b start tie xs q)
