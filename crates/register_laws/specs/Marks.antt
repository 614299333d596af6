-- The mark of feoi: "feoi marks the next byte whose write through offset 7 is accepted; reset removes an unused mark."
-- (document 02, Q-6). It is told from calls and their answers alone.
-- Assumes nothing.
use Rattle.std.specs.Prelude.{ℕ, ◌≡◌, Bool, true, false, cond, ◌||◌, List, eqb, Some, Ok}
use Rattle.offer.specs.Offer.{byte}
use Rattle.parties.specs.Places.{place}
use Rattle.effect.specs.Calls.{act_number}
use Rattle.registers.specs.declared.Access.TheVariants.{Write}
use Rattle.bus.specs.declared.Bus.{Bus}
use Rattle.bus.specs.Types.{Name, Act}
use Rattle.bus.specs.Record.{here}
use Rattle.bus.specs.Machine as m
use Rattle.bus.specs.Delivery.{Moment, history}
use Rattle.runner.specs.Waiting.{TieOrder}
use Rattle.runner.specs.Lists.{Item, led_by, expanded, Start}
use Rattle.turn_laws.specs.Told.{told}

abbrev pub end_mark_at : Bus → ℕ → Bool
end_mark_at b q = (here b q).latches.feoi

-- What an accepted act leaves of its party's mark: feoi (15) sets it, a reset (10) and a byte through data out (14)
-- take it away, and every other act leaves it.
abbrev pub end_mark_by : Act → Bool → Bool
end_mark_by a on = cond (eqb (act_number a) 15) true (cond (eqb (act_number a) 10 || eqb (act_number a) 14) false on)

-- What a list tells of the mark of party q, which was on or off before.
abbrev pub end_mark_told : ℕ → List Moment → Bool → Bool
end_mark_told q xs on = told end_mark_by q xs on

-- From a start, over every list of calls and runs: a party is marked exactly where the list says so. Off at build.
abbrev pub MarkedAsTold : Type 0
MarkedAsTold = (names : List Name) (b : Bus) → Start names b → (tie : Bus → TieOrder) (xs : List Item) (q : ℕ)
    → end_mark_at (led_by tie b xs) q ≡ end_mark_told q (history b (expanded tie b xs)) false

-- A byte that is written through offset 7 and accepted is held with END exactly where the list so far says that its
-- party is marked.
abbrev pub EndAsMarked : Type 0
EndAsMarked = (names : List Name) (b : Bus) → Start names b → (tie : Bus → TieOrder) (xs : List Item) (q v : ℕ)
    → let c = led_by tie b xs in let a = m.accessed c (place q) (Write 7 v) in
    a.verdict ≡ Ok tt
    → (here a.bus q).held ≡ Some (byte v (end_mark_told q (history b (expanded tie b xs)) false))
