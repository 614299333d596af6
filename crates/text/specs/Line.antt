-- A line that is written into a lent buffer, one text after another.
-- Assumes nothing.
use Rattle.std.specs.Prelude.{ℕ, ◌+◌, ◌≤◌, ◌≡◌, List, length}
use Rattle.text.specs.declared.Line.{Line}
use Rattle.text.specs.Text.{Wrote}

-- The buffer has room for this text from the place on.
pub record HasRoom (l : Line) (text : List ℕ) : Type 0 where
  pub fits : l.at + length text ≤ length l.out.now

-- The text was written at the place, and the place is behind it, in the same buffer.
pub record Puts (old : Line) (text : List ℕ) (new : Line) : Type 0 where
  pub wrote : Wrote old.out.now old.at text new.out.now new.at
  pub same : new.out.ghost_name ≡ old.out.ghost_name
