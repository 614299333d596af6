use Rattle.text.specs.Text.{line_of}
use Rattle.text.proofs.Laws.{first, room_after, and_then}
use Rattle.text.proofs.Line.put_parts.Goals as goal

pub put_head-requires : goal.put_head-requires
unfolding line_of
put_head-requires c = first _ _ (first _ _ c.requires)

pub put_event-requires : goal.put_event-requires
unfolding line_of
put_event-requires c = room_after c.put_head.ensures (first _ _ c.requires)

pub put_counts-requires : goal.put_counts-requires
unfolding line_of
put_counts-requires c = room_after (and_then c.put_head.ensures c.put_event.ensures) c.requires

pub returns : goal.returns
unfolding line_of
returns c = and_then (and_then c.put_head.ensures c.put_event.ensures) c.put_counts.ensures
