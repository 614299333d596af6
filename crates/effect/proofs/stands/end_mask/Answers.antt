use Rattle.std.proofs.Common.{refl, sym, false, eqb}
use Rattle.parties.specs.Places.{within}
use Rattle.parties.proofs.Bits.{bits_none, mask_if}
use Rattle.effect.proofs.stands.end_mask.Goals as goal

pub returns-in-None : goal.returns-in-None
returns-in-None c = rw c.in-None.is (sym (bits_none 0 (within c.args.count) (λ i. false) (λ i. refl)))

pub returns-in-Some : goal.returns-in-Some
returns-in-Some c =
    simp (c.only_if.ensures, c.bit_of.ensures, c.in-Some.is)
    (mask_if (within c.args.count) (λ i. eqb i c.in-Some.b.sender.0) c.in-Some.b.end)
