-- The call reads the lines and who talks once, and its verdict is the machine's.
use Rattle.std.proofs.Common.{◌≡◌, refl, sym, ◌∙◌, length, true, rules}
use Rattle.effect.specs.Calls.{is_accepted, place_of}
use Rattle.effect.specs.Stands.{has_end}
use Rattle.parties.specs.Places.{slot}
use Rattle.parties.specs.Lines.{scan_of}
use Rattle.parties.proofs.Loops.{length_of_map}
use Rattle.bus.specs.Record.{lines}
use Rattle.bus.specs.Machine.{verdict}
use Rattle.bus.proofs.Seats.{judge_seat, seat, scan_read, verdict_read}
use Rattle.bus.proofs.Bus.call.Goals as goal

pub returns-in-Ok : goal.returns-in-Ok
returns-in-Ok c =
    let b = c.args.self in
    let z : length b.parties ≡ 15 = search (rules, length_of_map) in
    let heard : c.told-scan.result ≡ scan_of (slot (place_of c.args.c).0) b.count b.parties (has_end b.standing)
    = c.told-scan.ensures ∙ rw (
      c.has_end.ensures,
      c.sweep_of.ensures,
      c.slot-at.ensures.0,
      c.place-place.ensures,
    ) (scan_read b c.args.c z) in
    let v : verdict (lines b) b c.args.c ≡ c.judge.result = sym (c.judge.ensures ∙ rw (
      c.is_inside.ensures,
      c.eq.ensures,
      heard,
      c.slot-at.ensures.0,
      c.place-place.ensures,
    ) (judge_seat b (place_of c.args.c) c.args.c)) in
    let ok : is_accepted (verdict (lines b) b c.args.c) ≡ true = rw (v, c.in-Ok.is) refl in
    c.follow.ensures ∙ rw (
      c.effect_of.ensures,
      c.is_inside.ensures,
      c.eq.ensures,
      heard,
      c.slot-at.ensures.0,
      c.place-place.ensures,
      seat b c.args.c ok,
      ok,
    ) refl

pub returns-in-Err : goal.returns-in-Err
returns-in-Err c =
    let b = c.args.self in
    let z : length b.parties ≡ 15 = search (rules, length_of_map) in
    let v : verdict (lines b) b c.args.c ≡ c.judge.result = sym (c.judge.ensures ∙ rw (
      c.is_inside.ensures,
      c.eq.ensures,
      c.told-scan.ensures,
      c.has_end.ensures,
      c.sweep_of.ensures,
      c.slot-at.ensures.0,
      c.place-place.ensures,
    ) (verdict_read b c.args.c z)) in
    c.refuse.ensures ∙ rw (v, c.in-Err.is) refl
