-- Lists with runs in them: a run stands for its steps.
-- Assumes nothing.
use mathlib.Core.Path.{◌≡◌, refl, sym, ap, ◌∙◌}
use mathlib.Core.Bool.{Bool}
use mathlib.Core.List.{List, [], ◌∷◌, ◌++◌}
use Prim.Native.Nat.{ℕ}
use Rattle.role.proofs.Logic.{cond-elim}
use Rattle.effect.specs.Calls.{is_accepted, place_of}
use Rattle.effect.specs.declared.Effect.{Effect}
use Rattle.effect.specs.declared.After.{After}
use Rattle.effect.specs.declared.After.TheVariants as after
use Rattle.accepted.specs.Accepted.{effect_of}
use Rattle.bus.specs.declared.Bus.{Bus}
use Rattle.bus.specs.declared.Answer.{Answer}
use Rattle.bus.specs.Record.{lines}
use Rattle.bus.specs.Settling.{followed}
use Rattle.bus.specs.Machine as m
use Rattle.bus.specs.Types.{Call}
use Rattle.runner.specs.Runner.{step_of, steps, turns_of, give_turns}
use Rattle.runner.specs.Lists.{call, run, expanded, StandsForSteps}

-- no call changes how many parties there are, on any bus
pub count_kept : (x : After) (t : Bool) (b : Bus) (i : ℕ) (e : Effect) → (followed x t b i e).bus.count ≡ b.count
count_kept after.Settle t b i e = refl
count_kept (after.Pass j) t b i e = refl
count_kept after.Attend t b i e = refl
count_kept after.Clear t b i e = refl
count_kept after.Poll t b i e = refl

pub call_count : (b : Bus) (c : Call) → (m.call b c).bus.count ≡ b.count
call_count b c = cond-elim (λ (a : Answer). a.bus.count ≡ b.count) (is_accepted (m.verdict (lines b) b c))
    (λ _. let e = effect_of (m.view_at (place_of c) (lines b) b) c in
    count_kept e.after (lines b).atn b (place_of c).0 e)
    (λ _. refl)

pub run_append : (b : Bus) (cs ds : List Call) → m.run b (cs ++ ds) ≡ m.run (m.run b cs) ds
run_append b [] ds = refl
run_append b (c ∷ cs) ds = run_append (m.call b c).bus cs ds

pub steps_append : (xs ys : List ℕ) → steps (xs ++ ys) ≡ (steps xs ++ steps ys)
steps_append [] ys = refl
steps_append (x ∷ xs) ys = ap (λ (cs : List Call). step_of x ∷ cs) (steps_append xs ys)

pub stands_for_steps : StandsForSteps
stands_for_steps tie b [] = refl
stands_for_steps tie b (call c ∷ xs) = stands_for_steps tie (m.call b c).bus xs
stands_for_steps tie b (run t ∷ xs) =
    let c = (give_turns (tie b) b t).bus in
    stands_for_steps tie c xs ∙ sym (run_append b (steps (turns_of (tie b) b t)) (expanded tie c xs))
