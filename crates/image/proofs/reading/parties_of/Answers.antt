use Rattle.std.proofs.Common.{◌≡◌, ◌∙◌, map, take, arith}
use Rattle.std.proofs.lemmas.List.{append-nil, take-map}
use Rattle.image.specs.Image.{party_of}
use Rattle.image.proofs.reading.parties_of.Goals as goal

pub returns : goal.returns
returns c =
    let z : c.loop-k.k ≡ 15 = omega arith in
    rw z at c.loop-k.invariant ∙ append-nil (take 15 (map party_of c.args.rows)) ∙ take-map party_of 15 c.args.rows
