use Rattle.std.proofs.Common.{◌≡◌, refl, Bool, true, false}
use mir.Val.{bool_byte}
use Rattle.party.specs.Parts.{one}
use Rattle.text.specs.Text.{counts_text}
use Rattle.text.proofs.Laws.{first, room_after, and_then}
use Rattle.text.proofs.Line.put_counts.Goals as goal

as_one : (b : Bool) → bool_byte b ≡ one b
as_one true = refl
as_one false = refl

pub put_number-requires : goal.put_number-requires
unfolding counts_text
put_number-requires c = rw (c.from.ensures, as_one c.args.end) (first _ _ (first _ _ c.requires))

pub put_number-requires-2 : goal.put_number-requires-2
unfolding counts_text
put_number-requires-2 c =
    room_after (rw (c.from.ensures, as_one c.args.end) at c.put_number.ensures) (first _ _ c.requires)

pub put_number-requires-3 : goal.put_number-requires-3
unfolding counts_text
put_number-requires-3 c =
    let p = rw (c.from.ensures, as_one c.args.end) at c.put_number.ensures in
    room_after (and_then p c.put_number-2.ensures) c.requires

pub returns : goal.returns
unfolding counts_text
returns c =
    let p = rw (c.from.ensures, as_one c.args.end) at c.put_number.ensures in
    and_then (and_then p c.put_number-2.ensures) c.put_number-3.ensures
