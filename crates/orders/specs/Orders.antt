-- What the numbers of a record ask for, and its answer (document 01, "The bus script").
-- Assumes nothing.
use Rattle.std.specs.Prelude.{ℕ, cond, Result, Ok, Err, eqb}
use Rattle.std.specs.List.{range_with_len}
use Rattle.party.specs.declared.Place.{Place}
use Rattle.parties.specs.Places.{place}
use Rattle.effect.specs.declared.Refusal.{Refusal}
use Rattle.effect.specs.declared.Refusal.TheVariants as ruling
use Rattle.effect.specs.declared.Act.{Act}
use Rattle.effect.specs.declared.Call.TheVariants as call_of
use Rattle.effect.specs.declared.Act.TheVariants as act_of
use Rattle.bus.specs.declared.Bus.{Bus}
use Rattle.bus.specs.declared.Answer.{Answer}
use Rattle.bus.specs.Record.{build, refuse}
use Rattle.bus.specs.Machine.{call}
use Rattle.reader.specs.declared.Record.{Record}
use Rattle.orders.specs.declared.Order.{Order}
use Rattle.orders.specs.declared.Order.TheVariants as order

-- A call of the party that the record names.
abbrev asks_of_party : Record → Act → Result Order Refusal
asks_of_party r a = Ok (order.Call (call_of.Of (place r.party) a))

-- "Operations, decimal: 0 build (system party; value parties with addresses extra, extra+1, ..), 1 step, 2 write (extra
-- END), 3 read, 4 poll register, 5 listen-only, 6 talk-only, 7 take control, 8 standby, 9 clear, 10 reset, 11 drop, 12
-- lines (no party). Unused fields are ignored." Document 02, Q-5: 13 second request.
-- An unknown operation is refused with BADVALUE.
unfoldable pub order_of : Record → Result Order Refusal
order_of r =
    cond (eqb r.op 0) (Ok (order.Build (place r.party) r.value r.extra)) (
    cond (eqb r.op 1) (asks_of_party r act_of.Step) (
    cond (eqb r.op 2) (asks_of_party r (act_of.Write r.value r.extra)) (
    cond (eqb r.op 3) (asks_of_party r act_of.Read) (
    cond (eqb r.op 4) (asks_of_party r (act_of.PollRegister r.value)) (
    cond (eqb r.op 5) (asks_of_party r (act_of.ListenOnly r.value)) (
    cond (eqb r.op 6) (asks_of_party r (act_of.TalkOnly r.value)) (
    cond (eqb r.op 7) (asks_of_party r act_of.TakeControl) (
    cond (eqb r.op 8) (asks_of_party r act_of.GoToStandby) (
    cond (eqb r.op 9) (asks_of_party r act_of.InterfaceClear) (
    cond (eqb r.op 10) (asks_of_party r act_of.Reset) (
    cond (eqb r.op 11) (asks_of_party r act_of.Drop) (
    cond (eqb r.op 12) (Ok (order.Call call_of.Lines)) (
    cond (eqb r.op 13) (asks_of_party r (act_of.SecondRequest r.value)) (Err ruling.BadValue))))))))))))))

-- "extra, extra+1, .."
unfoldable pub build_from : Place → ℕ → ℕ → Answer
build_from system n first = build (range_with_len first n) system

unfoldable pub obey : Bus → Order → Answer
obey b (order.Build system n first) = build_from system n first
obey b (order.Call c) = call b c

-- What asks for nothing is refused.
abbrev pub answer_to_order : Bus → Result Order Refusal → Answer
answer_to_order b (Ok o) = obey b o
answer_to_order b (Err e) = refuse e b

unfoldable pub answer_to_record : Bus → Record → Answer
answer_to_record b r = answer_to_order b (order_of r)
