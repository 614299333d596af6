-- No address, an address alone, or an address with its secondary.
use Rattle.std.proofs.Common.{sym, arith}
use Rattle.message.specs.Meaning.{address}
use Rattle.names.specs.Names.{plain}
use Rattle.addresses.proofs.Scans.{name_past, name_plain, name_both}
use Rattle.addresses.proofs.Roster.name_at.Goals as goal

pub returns-then-self-i : goal.returns-then-self-i
returns-then-self-i c =
    let a = c.args in
    sym (name_past a.self.addresses.now a.self.secondaries.now a.i (plain (address 0)) (omega arith))

pub returns-then-self-i-2 : goal.returns-then-self-i-2
returns-then-self-i-2 c =
    let a = c.args in
    sym (name_plain a.self.addresses.now a.self.secondaries.now a.i (plain (address 0)) (omega arith) (omega arith))

pub returns : goal.returns
returns c =
    let a = c.args in
    simp (
      c.secondary_given.ensures,
      name_both a.self.addresses.now a.self.secondaries.now a.i (plain (address 0)) (omega arith) (omega arith),
    )
