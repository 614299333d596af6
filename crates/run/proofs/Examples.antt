-- The example scripts give their text: computed.
-- Assumes nothing.
use mathlib.Core.Path.{refl}
use Rattle.message.specs.Meaning.{meaning_of, seven_bits, named}
use Rattle.event.specs.Words.{codes, word_text}
use Rattle.text.specs.Text.{decimal_of, number_text, byte_text, head_text, event_text, counts_text, line_of}
use Rattle.orders.specs.Orders.{order_of, build_from, obey, answer_to_record}
use Rattle.reader.specs.Record.{records}
use Rattle.run.specs.Run.{answer_to, text_from, text_of}
use Rattle.run.specs.Examples.{Holds}

pub examples : Holds
unfolding meaning_of seven_bits named codes decimal_of number_text word_text byte_text head_text event_text
    counts_text line_of
    order_of build_from obey answer_to_record answer_to records text_from text_of
examples = record {
  document = refl;
  empty = refl;
  wrong_mark = refl;
  short_tail = refl;
  unknown = refl;
  second_request = refl;
  polled_away = refl;
}
