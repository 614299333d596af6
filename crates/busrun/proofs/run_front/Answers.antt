use Rattle.std.proofs.Common.{◌≡◌, ◌++◌, ℕ, List, length, drop, ap, ◌∙◌, subst}
use Rattle.run.specs.Run.{text_of, Printed}
use Rattle.run.proofs.Front.{front}
use Rattle.busrun.proofs.run_front.Goals as goal

-- what is printed of one script is printed of another with the same text
of_same : (s t before after : List ℕ) (r : ℕ) → text_of s ≡ text_of t → Printed s before after r
    → Printed t before after r
of_same s t before after r e w =
    subst (λ (l : List ℕ). (r ≡ length l) × (after ≡ l ++ drop r before)) e w

pub returns-clause-printed : goal.returns-clause-printed
returns-clause-printed c = λ input h. of_same _ input _ _ _ (ap text_of h ∙ front _ input c.requires.room)
    c.run_whole.ensures
