-- What a list of calls tells of a switch of a party that calls alone touch. `by` is what an accepted act leaves of the
-- switch of its own party, which had it on or off before.
-- Assumes nothing.
use Rattle.std.specs.Prelude.{ℕ, Bool, cond, List, [], ◌∷◌, eqb}
use Rattle.effect.specs.Calls.{is_accepted}
use Rattle.bus.specs.Types.{Act, Call}
use Rattle.bus.specs.Types.call_of
use Rattle.bus.specs.Delivery.{Moment}

-- What an accepted call leaves of the switch of party q.
abbrev pub switch_after : (Act → Bool → Bool) → ℕ → Call → Bool → Bool
switch_after by q (call_of.Of p a) on = cond (eqb q p.0) (by a on) on
switch_after by q call_of.Lines on = on
switch_after by q call_of.Drivers on = on

-- What all calls of a list leave of it. A refused call changes nothing.
abbrev pub told : (Act → Bool → Bool) → ℕ → List Moment → Bool → Bool
told by q [] on = on
told by q (x ∷ xs) on = told by q xs (cond (is_accepted x.answer.verdict) (switch_after by q x.call on) on)
