use Rattle.std.proofs.Common.{◌≡◌, refl, length, rules}
use Rattle.party.specs.Driving.{is_active}
use Rattle.party.specs.Settling.{attended, settled}
use Rattle.parties.proofs.Places.{each_each}
use Rattle.parties.proofs.Loops.{length_of_map}
use Rattle.parties.proofs.Sweeps.{line_on_lem}
use Rattle.bus.proofs.Seats.{broken_off}
use Rattle.bus.proofs.Bus.attend.Goals as goal

pub returns : goal.returns
returns c =
    let a = c.args in
    let atn = c.has_driver-atn.result in
    let z : length a.ps ≡ 15 = search (rules, length_of_map) in
    rw (
      c.answered.ensures,
      c.is_some.ensures,
      c.change_all.ensures,
      each_each a.self.count (settled atn) (attended atn) a.ps,
      c.has_driver-atn.ensures,
      c.sweep_of.ensures,
      line_on_lem a.self.count a.ps z is_active,
      broken_off a.st,
    ) refl
