-- Five rounds are not always enough to end a byte: an example, computed from the definitions.
-- Assumes nothing.
use Rattle.std.specs.Prelude.{ℕ, ◌≡◌, true, List, [], ◌∷◌}
use Rattle.party.specs.Parts.{one}
use Rattle.bus.specs.Delivery.{is_end, tally, history}
use Rattle.bus.specs.Rows.{write, listen_only, talk_only, read}
use Rattle.runner.specs.Ties.{by_address}
use Rattle.runner.specs.Runner.{steps, turns_of}
use Rattle.runner.specs.Lists.{Item, call, run}
use Rattle.runner.specs.Examples.{after}
use Rattle.bound_laws.specs.Bound.{Offered}

-- Party 1 has taken a byte that was then broken off, and 41 waits: it has three turns to go before it is ready.
abbrev pub slow : List Item
slow =
    call (talk_only 0 1) ∷ call (listen_only 1 1) ∷ call (write 0 0x40 0) ∷ run 4
    ∷ call (talk_only 0 0) ∷ call (read 1) ∷ call (talk_only 0 1) ∷ call (write 0 0x41 1) ∷ []

-- How many bytes end in the first t turns of a run.
abbrev ended : List Item → ℕ → ℕ
ended xs t = tally (λ x. one (is_end x.answer.event))
    (history (after xs) (steps (turns_of (by_address (after xs)) (after xs) t)))

-- The bound's premises hold, n is 2, and the eleventh turn ends the byte.
pub record Examples : Type 0 where
  pub premises : Offered (after slow) 0 1 0x41 true
  pub not_in_five_rounds : ended slow 10 ≡ 0
  pub in_one_turn_more : ended slow 11 ≡ 1
