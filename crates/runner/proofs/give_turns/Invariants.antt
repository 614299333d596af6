-- How far the loop has come is `Going`.
use Rattle.runner.proofs.Giving.{Going}
use Rattle.runner.proofs.give_turns.Given as goal

abbrev pub invariant-loop-t : goal.invariant-loop-t
invariant-loop-t l = Going l.initial.after l.n l.turns l.keys l.counts l.after l.t
