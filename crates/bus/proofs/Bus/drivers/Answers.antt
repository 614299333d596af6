use Rattle.std.proofs.Common.{◌≡◌, refl, ◌∙◌}
use Rattle.bus.specs.Drivers.{masks}
use Rattle.bus.proofs.Driving.{masks_counted}
use Rattle.bus.proofs.Bus.drivers.Goals as goal

pub returns : goal.returns
returns c =
    let b = c.args.self in
    let m : c.masks_with-masks.result ≡ masks b = c.masks_with-masks.ensures
    ∙ rw (c.end_mask-sender.ensures, c.sweep_of.ensures) refl
    in
    rw (c.call.ensures, c.counts.ensures, m, masks_counted b) refl
