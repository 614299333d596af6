use Rattle.text.specs.Text.{event_text}
use Rattle.text.proofs.Laws.{first, room_after, and_then}
use Rattle.text.proofs.Line.put_event.Goals as goal

pub put_word-requires : goal.put_word-requires
unfolding event_text
put_word-requires c = first _ _ c.requires

pub put_byte-requires : goal.put_byte-requires
unfolding event_text
put_byte-requires c = rw c.has_byte.ensures (room_after c.put_word.ensures c.requires)

pub returns : goal.returns
unfolding event_text
returns c = and_then c.put_word.ensures (rw c.has_byte.ensures at c.put_byte.ensures)
