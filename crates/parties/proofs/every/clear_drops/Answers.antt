use Rattle.std.proofs.Common.{◌≡◌, ◌+◌, length, take, ap, ◌∙◌, arith, rules}
use Rattle.std.proofs.lemmas.List.{length-take-le, get_or-take}
use Rattle.party.specs.Parts.{idle}
use Rattle.party.specs.Settling.{clear_drops}
use Rattle.parties.specs.Places.{at, total}
use Rattle.parties.proofs.Loops.{length_of_map, turn, done, total_suc, total_all, all_15}
use Rattle.parties.proofs.every.clear_drops.Goals as goal

pub loop-p-preserved : goal.loop-p-preserved
loop-p-preserved c =
    let ps = c.args.ps in
    let k = c.loop-p.p-index in
    let z : length ps ≡ 15 = search (rules, length_of_map) in
    let t : length (take c.within.result ps) ≡ c.within.result = length-take-le _ ps (omega arith) in (
      turn (λ k. total k clear_drops ps) (λ x. x + clear_drops (at ps k)) k
          (total_suc k clear_drops ps (omega arith)) c.loop-p.invariant.0
          (ap (λ x. c.loop-p.sum + x) (c.clear_drops-sum.ensures.0
          ∙ ap clear_drops (get_or-take c.within.result ps k idle (omega arith)))),
      omega arith,
    )

pub returns : goal.returns
returns c =
    let ps = c.args.ps in
    let z : length ps ≡ 15 = search (rules, length_of_map) in
    let t : length (take c.within.result ps) ≡ c.within.result = length-take-le _ ps (omega arith) in (
      done (λ k. total k clear_drops ps) c.args.count c.within.result c.loop-p.p-index
          (all_15 (λ k. total k clear_drops ps) c.args.count ps z
          (total_all c.args.count clear_drops ps)) c.within.ensures.0 (omega arith)
          (omega arith) c.loop-p.invariant.0,
      omega arith,
    )
