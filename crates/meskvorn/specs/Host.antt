-- What the exported functions give (document 01, "The host's calls" and "The bus script").
-- Assumes nothing.
use Rattle.std.specs.Prelude.{ℕ, ◌≡◌, cond, List, [], ◌∷◌, eqb, Result, Ok, Err}
use Rattle.effect.specs.declared.Refusal.TheVariants as ruling
use Rattle.bus.specs.declared.Bus.{Bus}
use Rattle.bus.specs.declared.Answer.{Answer}
use Rattle.bus.specs.declared.Drivers.{Drivers}
use Rattle.bus.specs.Record.{here, refuse}
use Rattle.image.specs.Image.{rows_of}
use Rattle.refusals.specs.Refusals.{is_inside}
use Rattle.reader.specs.Record.{record_of}
use Rattle.orders.specs.Orders.{answer_to_record}
use Rattle.effect.specs.Calls.{is_accepted, verdict_number}
use Rattle.runner.specs.declared.Given.{Given}
use Rattle.runner.specs.Ties.{by_address}
use Rattle.runner.specs.Runner.{give_turns}
use Rattle.run.specs.declared.NoRoom.{NoRoom}
use Rattle.run.specs.Run.{RanAs}
use Rattle.meskvorn.specs.Packing.{packed, packed_name}
use Rattle.parties.specs.declared.EachLine.{EachLine}
use Rattle.effect.specs.Types.{Verdict}

-- The largest number of 64 bits stands for no room.
abbrev pub count_of : Result ℕ NoRoom → ℕ
count_of (Ok n) = n
count_of (Err e) = 18446744073709551615

-- The script was run as crates/run says, and the number says how.
abbrev pub RanTo : List ℕ → List ℕ → List ℕ → ℕ → Type 0
RanTo script before after n = (r : Result ℕ NoRoom) × ((n ≡ count_of r) × RanAs script before after r)

-- An operation by the number that it has in a script. Build, 0, takes a list of addresses and has a function of its
-- own: here it is no operation.
unfoldable pub answer_by_number : Bus → ℕ → ℕ → ℕ → ℕ → Answer
answer_by_number b op party value extra =
    cond (eqb op 0) (refuse ruling.BadValue b) (answer_to_record b (record_of op party value extra))

-- The rows after what was answered with this verdict: those of the bus that it left. What is refused leaves the rows as
-- they were, byte for byte, whatever they held.
abbrev pub rows_after : Verdict → Bus → List (List ℕ) → List (List ℕ)
rows_after r b before = cond (is_accepted r) (rows_of b) before

-- A host has this answer to a call: the number is the answer's.
pub record Replied (a : Answer) (before after : List (List ℕ)) (n : ℕ) : Type 0 where
  pub said : n ≡ packed a
  pub rows : after ≡ rows_after a.verdict a.bus before

-- A host has this answer to a build: the rows are those of the bus that was built, or of the bus of no parties.
pub record Built (a : Answer) (after : List (List ℕ)) (n : ℕ) : Type 0 where
  pub said : n ≡ packed a
  pub rows : after ≡ rows_of a.bus

-- A run of so many turns, ties by address.
abbrev pub turns_given : Bus → ℕ → Given
turns_given b t = give_turns (by_address b) b t

-- A host was given these turns: the number is the refusal's, and the counts are those of the places.
pub record Gave (g : Given) (before after : List (List ℕ)) (counts : List ℕ) (n : ℕ) : Type 0 where
  pub said : n ≡ verdict_number g.verdict
  pub counted : counts ≡ g.counts
  pub rows : after ≡ rows_after g.verdict g.bus before

-- The six lines in document 01's order: ATN, DAV, NRFD, NDAC, EOI, SRQ.
abbrev pub line_list : {A : Type 0} → EachLine A → List A
line_list l = l.atn ∷ l.dav ∷ l.nrfd ∷ l.ndac ∷ l.eoi ∷ l.srq ∷ []

-- A host was told these drivers: the number is the answer's, masks and counts are those of the lines, and the rows are
-- those of the bus after it.
pub record Counted (d : Drivers) (after : List (List ℕ)) (masks counts : List ℕ) (n : ℕ) : Type 0 where
  pub said : n ≡ packed d.answer
  pub who : masks ≡ line_list d.masks
  pub number : counts ≡ line_list d.counts
  pub rows : after ≡ rows_of d.answer.bus

-- The name of the party at a place, as a number: its high byte, 255 or the secondary, tells the two sorts of party
-- apart. The largest number of 16 bits stands for no party.
abbrev pub name_number : Bus → ℕ → ℕ
name_number b i = cond (is_inside b.count i) (packed_name (here b i).role.name) 65535
