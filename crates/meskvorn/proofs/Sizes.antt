-- No operation and no run changes the number of places.
-- Assumes nothing.
use Prim.Native.Nat.{ℕ, zero, suc}
use mathlib.Core.Path.{◌≡◌, refl, ap}
use mathlib.Core.Bool.{Bool, true, false, cond}
use mathlib.Core.List.{List, [], ◌∷◌}
use lib.ListN.{length, length-set}
use lib.Dec.{eqb}
use Rattle.std.specs.Prelude.{Result, Ok, Err}
use Rattle.std.specs.List.{range_with_len}
use Rattle.effect.specs.declared.Refusal.{Refusal}
use Rattle.names.specs.declared.Name.{Name}
use Rattle.party.specs.declared.Place.{Place}
use Rattle.parties.proofs.Places.{length_each}
use Rattle.effect.specs.declared.Call.{Call}
use Rattle.effect.specs.declared.Call.TheVariants as call_of
use Rattle.effect.specs.declared.Effect.{Effect}
use Rattle.effect.specs.declared.After.{After}
use Rattle.effect.specs.declared.After.TheVariants as after
use Rattle.effect.specs.declared.Refusal.TheVariants as ruling
use Rattle.effect.specs.Calls.{is_accepted, place_of}
use Rattle.accepted.specs.Accepted.{effect_of}
use Rattle.bus.specs.declared.Bus.{Bus}
use Rattle.bus.specs.declared.Answer.{Answer}
use Rattle.bus.specs.Record.{lines, built, no_parties, refuse, silent, accept, build_extended}
use Rattle.addresses.specs.Addresses.{names, placed, bad_build}
use Rattle.bus.specs.Settling.{followed}
use Rattle.bus.specs.Drivers.{drivers}
use Rattle.bus.specs.Machine.{view_at, call, verdict, accepted, run}
use Rattle.runner.specs.Waiting.{TieOrder}
use Rattle.runner.specs.Runner.{steps, turns_of, give_turns}
use Rattle.reader.specs.Record.{record_of}
use Rattle.orders.specs.Orders.{order_of, obey, build_from, answer_to_order, answer_to_record}
use Rattle.orders.specs.declared.Order.{Order}
use Rattle.orders.specs.declared.Order.TheVariants as order
use Rattle.meskvorn.specs.Host.{answer_by_number}

abbrev Full : Bus → Type 0
Full b = length b.parties ≡ 15

-- one of two answers
either : (x : Bool) (a c : Answer) → Full a.bus → Full c.bus → Full (cond x a c).bus
either true a c h k = h
either false a c h k = k

placed_size : (n : ℕ) (xs : List Name) → length (placed n xs) ≡ n
placed_size zero xs = refl
placed_size (suc n) [] = ap suc (placed_size n [])
placed_size (suc n) (a ∷ xs) = ap suc (placed_size n xs)

pub build_size : (xs : List Name) (s : Place) → Full (build_extended xs s).bus
build_size xs s = either (bad_build xs s) (refuse ruling.BadBuild no_parties) (accept (built xs s))
    (placed_size 15 []) (placed_size 15 xs)

followed_size : (x : After) (atn : Bool) (b : Bus) (i : ℕ) (e : Effect) → Full b → Full (followed x atn b i e).bus
followed_size after.Settle atn b i e h = simp (length_each, length-set) h
followed_size (after.Pass j) atn b i e h = simp (length_each, length-set) h
followed_size after.Attend atn b i e h = simp (length_each, length-set) h
followed_size after.Clear atn b i e h = simp (length_each, length-set) h
followed_size after.Poll atn b i e h = simp (length_each, length-set) h

-- an accepted call, and one that may be refused
pub call_size : (b : Bus) (c : Call) → Full b → Full (call b c).bus
call_size b c h =
    let l = lines b in
    let i = (place_of c).0 in
    let e = effect_of (view_at (place_of c) l b) c in
    either (is_accepted (verdict l b c)) (accepted l b c) (silent (verdict l b c) b)
    (followed_size e.after l.atn b i e h) h

pub drivers_size : (b : Bus) → Full b → Full (drivers b).answer.bus
drivers_size b h = call_size b call_of.Drivers h

run_size : (b : Bus) (cs : List Call) → Full b → Full (run b cs)
run_size b [] h = h
run_size b (c ∷ cs) h = run_size (call b c).bus cs (call_size b c h)

pub turns_size : (tie : TieOrder) (b : Bus) (t : ℕ) → Full b → Full (give_turns tie b t).bus
turns_size tie b t h = run_size b (steps (turns_of tie b t)) h

answered_size : (b : Bus) (o : Result Order Refusal) → Full b → Full (answer_to_order b o).bus
unfolding obey build_from
answered_size b (Ok (order.Build s n first)) h = build_size (names (range_with_len first n) []) s
answered_size b (Ok (order.Call c)) h = call_size b c h
answered_size b (Err e) h = h

pub answer_size : (b : Bus) (op party value extra : ℕ) → Full b → Full (answer_by_number b op party value extra).bus
unfolding answer_by_number answer_to_record
answer_size b op party value extra h =
    let o = order_of (record_of op party value extra) in
    either (eqb op 0) (refuse ruling.BadValue b) (answer_to_order b o) h (answered_size b o h)
