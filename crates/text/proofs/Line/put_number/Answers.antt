use Rattle.text.specs.Text.{number_text}
use Rattle.text.proofs.Laws.{first, room_after, and_then}
use Rattle.text.proofs.Line.put_number.Goals as goal

pub put_decimal-requires : goal.put_decimal-requires
unfolding number_text
put_decimal-requires c = first _ _ c.requires

pub put-requires : goal.put-requires
unfolding number_text
put-requires c = room_after c.put_decimal.ensures c.requires

pub returns : goal.returns
unfolding number_text
returns c = and_then c.put_decimal.ensures c.put.ensures
