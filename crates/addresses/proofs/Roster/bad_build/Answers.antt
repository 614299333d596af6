use Rattle.std.proofs.Common.{sym, ◌∙◌}
use borrow.Author.Tests.{eq-eqb, ne_eqb, lt-ltb, le-ltb}
use Rattle.addresses.proofs.Scans.{names_length}
use Rattle.addresses.proofs.Roster.bad_build.Goals as goal
use Rattle.addresses.proofs.Roster.bad_build.Goals.{then-n-eq0-via-then-n-eq0, then-n-eq0-via-else-n-eq0+then-n-gt15}

pub returns-then-n-eq0 : goal.returns-then-n-eq0
returns-then-n-eq0 c = elim c.then-n-eq0.branch [
  | then-n-eq0-via-then-n-eq0 w ↦ simp (names_length, eq-eqb _ 0 w.if-n-eq0.true)
  | then-n-eq0-via-else-n-eq0+then-n-gt15 w ↦
      simp (names_length, ne_eqb _ 0 w.if-n-eq0.false, lt-ltb 15 _ w.if-n-gt15.true)
]

pub returns : goal.returns
returns c = simp (
  names_length,
  ne_eqb _ 0 c.if-n-eq0.false,
  le-ltb 15 _ c.if-n-gt15.false,
  sym c.any_over_30.ensures ∙ c.if-any_over_30.false,
  sym c.two_clash.ensures ∙ c.if-two_clash.false,
)
