use Rattle.meskvorn.proofs.turns.meskvorn_turns.Goals as goal

pub returns : goal.returns
returns c = rw (← c.bus_of.ensures, ← c.give_turns.ensures) c.hand_over.ensures
