use Rattle.text.specs.Text.{head_text}
use Rattle.text.proofs.Laws.{first, room_after, and_then}
use Rattle.text.proofs.Line.put_head.Goals as goal

pub put_number-requires : goal.put_number-requires
unfolding head_text
put_number-requires c = first _ _ c.requires

pub put_number-requires-2 : goal.put_number-requires-2
unfolding head_text
put_number-requires-2 c = rw c.verdict_number.ensures (room_after c.put_number.ensures c.requires)

pub returns : goal.returns
unfolding head_text
returns c = and_then c.put_number.ensures (rw c.verdict_number.ensures at c.put_number-2.ensures)
