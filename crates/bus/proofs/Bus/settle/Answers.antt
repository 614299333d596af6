use Rattle.std.proofs.Common.{◌≡◌, refl, cond, None, length, set, ◌∙◌, rules}
use Rattle.party.specs.Settling.{settled}
use Rattle.parties.specs.Places.{each}
use lib.ListN.{length-set}
use Rattle.parties.proofs.Loops.{length_of_map}
use Rattle.bus.specs.Settling.{deserted}
use Rattle.bus.proofs.Seats.{left_seat}
use Rattle.bus.proofs.Bus.settle.Goals as goal
use Rattle.bus.proofs.Bus.settle.Goals.{then-off, else-off, then-atn, else-atn}

pub returns : goal.returns
returns c =
    let a = c.args in
    let z : length a.self.parties ≡ 15 = search (rules, length_of_map) in
    let ps = set a.self.parties a.i.0 a.e.party in
    let off : c.is_left-off.result ≡ deserted a.atn ps a.e.standing = c.is_left-off.ensures ∙ rw (
      c.is_source.ensures,
      c.sender_slot.ensures.0,
      c.with_party-parties.ensures,
    ) (left_seat a.atn ps a.e.standing (length-set a.self.parties a.i.0 a.e.party ∙ z)) in
    let left : c.if-off.standing ≡ cond c.is_left-off.result None a.e.standing = elim c.if-off.branch [
      | then-off w ↦ rw (w.standing-is, w.if-off.true) refl
      | else-off w ↦ rw (w.standing-is, w.if-off.false) refl
    ] in
    let all : c.if-atn.parties ≡ each a.self.count (settled a.atn) ps = elim c.if-atn.branch [
      | then-atn w ↦ rw (w.parties-is, w.change_all.ensures, c.with_party-parties.ensures, w.if-atn.true) refl
      | else-atn w ↦ rw (w.parties-is, w.change_all-else-atn.ensures, c.with_party-parties.ensures, w.if-atn.false) refl
    ] in
    c.answered.ensures ∙ rw (all, left, off) refl
