-- A bus that is kept as rows between the calls is the machine's bus.
-- Assumes nothing.
use Prim.Native.Nat.{ℕ}
use mathlib.Core.Path.{◌≡◌, refl, sym, ap, ◌∙◌}
use mathlib.Core.Bool.{false}
use mathlib.Core.List.{List, [], ◌∷◌}
use lib.ListN.{length}
use Rattle.bus.specs.declared.Bus.{Bus}
use Rattle.bus.specs.Record.{build_extended}
use Rattle.bus.specs.Drivers.{drivers}
use Rattle.role.proofs.Logic.{test}
use Rattle.parties.specs.Places.{place}
use Rattle.registers.specs.Registers.{stands_for}
use Rattle.effect.specs.declared.Call.TheVariants as call_of
use Rattle.effect.specs.declared.Act.TheVariants as act_of
use Rattle.bus.proofs.Reached.{refused_leaves}
use Rattle.effect.specs.Calls.{is_accepted, verdict_number}
use Rattle.runner.specs.Ties.{by_address}
use Rattle.image.specs.Image.{rows_of, bus_of}
use Rattle.image.proofs.Kept.{read_back}
use Rattle.meskvorn.specs.Packing.{packed}
use Rattle.meskvorn.specs.Host.{turns_given, rows_after, line_list}
use Rattle.meskvorn.specs.Hosted.{Op, by_number, by_register, own_status, parallel_poll, answer_of, Asked}
use Rattle.meskvorn.specs.Hosted.{call, run, Reply}
use Rattle.meskvorn.specs.Hosted.{answer, turns, drivers_of_lines, driven, Handed, none, called, ran, asked, Same}
use Rattle.meskvorn.specs.Hosted.{Hosted, HostedFromBuild}
use Rattle.meskvorn.proofs.Sizes.{call_size, answer_size, turns_size, drivers_size, build_size}
use Rattle.meskvorn.proofs.Refused.{answer_leaves, turns_leave}
use Rattle.effect.specs.Types.{Verdict}

-- rows that are those of a bus are those of the bus after it, also where what was refused leaves them
rows_next : (r : Verdict) (a b : Bus) (rows : List (List ℕ)) → rows ≡ rows_of b → (is_accepted r ≡ false → a ≡ b)
    → rows_after r a rows ≡ rows_of a
rows_next r a b rows e h = test (is_accepted r) (λ t. rw t refl) (λ t. rw t (e ∙ ap rows_of (sym (h t))))

-- Every list can be handed over, on any rows.
pub handed : (rows : List (List ℕ)) (xs : List Asked)
    → (rs : List Reply) × ((last : List (List ℕ)) × Handed rows xs rs last)
handed rows [] = ([], (rows, none))
handed rows (call o ∷ xs) =
    let a = answer_of (bus_of rows) o in
    let r = handed (rows_after a.verdict a.bus rows) xs in
    (answer (packed a) ∷ r.0, (r.1.0, called (record { said = refl; rows = refl }) r.1.1))
handed rows (run t ∷ xs) =
    let g = turns_given (bus_of rows) t in
    let r = handed (rows_after g.verdict g.bus rows) xs in (
      turns (verdict_number g.verdict) g.counts ∷ r.0,
      (r.1.0, ran (record { said = refl; counted = refl; rows = refl }) r.1.1),
    )
handed rows (drivers_of_lines ∷ xs) =
    let d = drivers (bus_of rows) in
    let r = handed (rows_of d.answer.bus) xs in (
      driven (packed d.answer) (line_list d.masks) (line_list d.counts) ∷ r.0,
      (r.1.0, asked (record { said = refl; who = refl; number = refl; rows = refl }) r.1.1),
    )

op_size : (b : Bus) (o : Op) → length b.parties ≡ 15 → length (answer_of b o).bus.parties ≡ 15
op_size b (by_number op party value extra) z = answer_size b op party value extra z
op_size b (by_register party a) z = call_size b (call_of.Of (place party) (stands_for a)) z
op_size b (own_status party value) z = call_size b (call_of.Of (place party) (act_of.OwnStatus value)) z
op_size b (parallel_poll party) z = call_size b (call_of.Of (place party) act_of.ParallelPoll) z

op_leaves : (b : Bus) (o : Op) → is_accepted (answer_of b o).verdict ≡ false → (answer_of b o).bus ≡ b
op_leaves b (by_number op party value extra) = answer_leaves b op party value extra
op_leaves b (by_register party a) = refused_leaves b (call_of.Of (place party) (stands_for a))
op_leaves b (own_status party value) = refused_leaves b (call_of.Of (place party) (act_of.OwnStatus value))
op_leaves b (parallel_poll party) = refused_leaves b (call_of.Of (place party) act_of.ParallelPoll)

-- By the list: the rows are those of a bus before each.
go : {rows : List (List ℕ)} {xs : List Asked} {rs : List Reply} {last : List (List ℕ)} → Handed rows xs rs last
    → (b : Bus) → length b.parties ≡ 15 → rows ≡ rows_of b → Same b xs rs last
go none b z e = record { said = refl; rows = e }
go (called {rows = rows} {o = o} l h) b z e =
    let read : bus_of _ ≡ b = ap bus_of e ∙ read_back b z in
    let r = go h (answer_of b o).bus (op_size b o z)
    (l.rows ∙ ap (λ (x : Bus). rows_after (answer_of x o).verdict (answer_of x o).bus rows) read
    ∙ rows_next (answer_of b o).verdict (answer_of b o).bus b rows e (op_leaves b o)) in
    record { said = cc (l.said ∙ ap (λ (x : Bus). packed (answer_of x o)) read, r.said); rows = r.rows }
go (ran {rows = rows} {t = t} l h) b z e =
    let read : bus_of _ ≡ b = ap bus_of e ∙ read_back b z in
    let r = go h (turns_given b t).bus (turns_size (by_address b) b t z)
    (l.rows ∙ ap (λ (x : Bus). rows_after (turns_given x t).verdict (turns_given x t).bus rows) read
    ∙ rows_next (turns_given b t).verdict (turns_given b t).bus b rows e (turns_leave b (by_address b) t)) in
    record {
      said = cc (
        l.said ∙ ap (λ (x : Bus). verdict_number (turns_given x t).verdict) read,
        l.counted
            ∙ ap (λ (x : Bus). (turns_given x t).counts) read,
        r.said,
      );
      rows = r.rows;
    }
go (asked l h) b z e =
    let read : bus_of _ ≡ b = ap bus_of e ∙ read_back b z in
    let r = go h (drivers b).answer.bus (drivers_size b z)
    (l.rows ∙ ap (λ (x : Bus). rows_of (drivers x).answer.bus) read) in
    record {
      said = cc (
        l.said ∙ ap (λ (x : Bus). packed (drivers x).answer) read,
        l.who ∙ ap (λ (x : Bus). line_list (drivers x).masks) read,
        l.number ∙ ap (λ (x : Bus). line_list (drivers x).counts) read,
        r.said,
      );
      rows = r.rows;
    }

pub hosted : Hosted
hosted b z xs rs last h = go h b z refl

pub hosted_from_build : HostedFromBuild
hosted_from_build names system rows n l xs rs last h = go h (build_extended names system).bus (build_size names system)
    l.rows
