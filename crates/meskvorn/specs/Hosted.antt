-- A list of operations, accesses to registers, own statuses, parallel polls, runs and questions who drives the lines,
-- handed one by one to meskvorn_call, meskvorn_read_register, meskvorn_write_register, meskvorn_own_status,
-- meskvorn_parallel_poll, meskvorn_turns and meskvorn_drivers with the rows that the last one left: the same as the
-- machine does with its bus.
-- Assumes nothing.
use Rattle.std.specs.Prelude.{ℕ, ◌≡◌, List, [], ◌∷◌, length}
use Rattle.names.specs.declared.Name.{Name}
use Rattle.party.specs.declared.Place.{Place}
use Rattle.registers.specs.declared.Access.{Access}
use Rattle.bus.specs.declared.Bus.{Bus}
use Rattle.bus.specs.declared.Answer.{Answer}
use Rattle.bus.specs.Record.{build_extended}
use Rattle.bus.specs.Drivers.{drivers}
use Rattle.effect.specs.declared.Call.TheVariants as call_of
use Rattle.effect.specs.declared.Act.TheVariants as act_of
use Rattle.bus.specs.Machine.{accessed}
use Rattle.bus.specs.Machine as m
use Rattle.parties.specs.Places.{place}
use Rattle.effect.specs.Calls.{verdict_number}
use Rattle.image.specs.Image.{rows_of, bus_of}
use Rattle.meskvorn.specs.Packing.{packed}
use Rattle.meskvorn.specs.Host.{answer_by_number, turns_given, Replied, Built, Gave, line_list, Counted}

-- An operation by the four numbers that meskvorn_call takes (operation, party, value, extra), an access to a register
-- of a party, a party's own status, or a parallel poll by one.
pub data Op : Type 0 where
  by_number : ℕ → ℕ → ℕ → ℕ → Op
  by_register : ℕ → Access → Op
  own_status : ℕ → ℕ → Op
  parallel_poll : ℕ → Op

abbrev pub answer_of : Bus → Op → Answer
answer_of b (by_number op party value extra) = answer_by_number b op party value extra
answer_of b (by_register party a) = accessed b (place party) a
answer_of b (own_status party value) = m.call b (call_of.Of (place party) (act_of.OwnStatus value))
answer_of b (parallel_poll party) = m.call b (call_of.Of (place party) act_of.ParallelPoll)

-- What a host asks for: an operation, a run of so many turns, or who drives the lines; and what it is given: an
-- answer's number, a refusal's with the counts of the places, or an answer's with the masks and the counts of the
-- lines.
pub data Asked : Type 0 where
  call : Op → Asked
  run : ℕ → Asked
  drivers_of_lines : Asked

pub data Reply : Type 0 where
  answer : ℕ → Reply
  turns : ℕ → List ℕ → Reply
  driven : ℕ → List ℕ → List ℕ → Reply

-- The machine's bus after them, and what it has to say.
abbrev pub after_asked : Bus → List Asked → Bus
after_asked b [] = b
after_asked b (call o ∷ xs) = after_asked (answer_of b o).bus xs
after_asked b (run t ∷ xs) = after_asked (turns_given b t).bus xs
after_asked b (drivers_of_lines ∷ xs) = after_asked (drivers b).answer.bus xs

abbrev pub replies : Bus → List Asked → List Reply
replies b [] = []
replies b (call o ∷ xs) = answer (packed (answer_of b o)) ∷ replies (answer_of b o).bus xs
replies b (run t ∷ xs) = turns (verdict_number (turns_given b t).verdict) (turns_given b t).counts
    ∷ replies (turns_given b t).bus xs
replies b (drivers_of_lines ∷ xs) = driven (packed (drivers b).answer) (line_list (drivers b).masks)
    (line_list (drivers b).counts) ∷ replies (drivers b).answer.bus xs

-- A host asked for these, one by one, beginning with these rows; it was given these replies, and has the last rows.
-- Nothing is known of each but what the exported functions ensure.
pub data Handed : List (List ℕ) → List Asked → List Reply → List (List ℕ) → Type 0 where
  none : {rows : List (List ℕ)} → Handed rows [] [] rows
  called : {rows next last : List (List ℕ)} {o : Op} {xs : List Asked} {n : ℕ} {rs : List Reply}
      → Replied (answer_of (bus_of rows) o) rows next n → Handed next xs rs last
      → Handed rows (call o ∷ xs) (answer n ∷ rs) last
  ran : {rows next last : List (List ℕ)} {t : ℕ} {xs : List Asked} {n : ℕ} {counts : List ℕ} {rs : List Reply}
      → Gave (turns_given (bus_of rows) t) rows next counts n → Handed next xs rs last
      → Handed rows (run t ∷ xs) (turns n counts ∷ rs) last
  asked : {rows next last : List (List ℕ)} {xs : List Asked} {n : ℕ} {masks counts : List ℕ} {rs : List Reply}
      → Counted (drivers (bus_of rows)) next masks counts n → Handed next xs rs last
      → Handed rows (drivers_of_lines ∷ xs) (driven n masks counts ∷ rs) last

-- The replies and the rows are the machine's.
pub record Same (b : Bus) (xs : List Asked) (rs : List Reply) (last : List (List ℕ)) : Type 0 where
  pub said : rs ≡ replies b xs
  pub rows : last ≡ rows_of (after_asked b xs)

-- Whoever keeps a bus of fifteen places as rows, and hands the rows to every one of them, has the machine.
abbrev pub Hosted : Type 0
Hosted = (b : Bus) → length b.parties ≡ 15 → (xs : List Asked) (rs : List Reply) (last : List (List ℕ))
    → Handed (rows_of b) xs rs last → Same b xs rs last

-- So from every build on, with secondaries or without, also from a refused one, whatever the rows held before it.
abbrev pub HostedFromBuild : Type 0
HostedFromBuild = (names : List Name) (system : Place) (rows : List (List ℕ)) (n : ℕ)
    → Built (build_extended names system) rows n
    → (xs : List Asked) (rs : List Reply) (last : List (List ℕ)) → Handed rows xs rs last
    → Same (build_extended names system).bus xs rs last
