use Rattle.std.proofs.Common.{◌≡◌, Bool, refl, sym, ap, ◌∙◌, ◌||◌, drop, get_or, arith}
use mathlib.Core.Bool.{or-true, or-false}
use Rattle.message.specs.Meaning.{address}
use Rattle.names.specs.Names.{plain, clashes}
use Rattle.addresses.specs.Addresses.{names, clashes_with}
use Rattle.addresses.proofs.Scans.{names_length, scan_turn, scan_done}
use Rattle.addresses.proofs.Roster.clashes_with.Goals.{then-clashes, else-clashes}
use Rattle.addresses.proofs.Roster.clashes_with.Goals as goal

pub loop-i-preserved : goal.loop-i-preserved
loop-i-preserved c =
    let a = c.args in
    let l = names a.self.addresses.now a.self.secondaries.now in
    let f = c.loop-i.found in
    let z = names_length a.self.addresses.now a.self.secondaries.now in
    let k : clashes a.n (get_or l c.loop-i.i (plain (address 0))) ≡ c.clashes.result = sym
    (c.clashes.ensures ∙ ap (clashes a.n) c.name_at.ensures) in
    let e : c.if-clashes.found ≡ (f || clashes a.n (get_or l c.loop-i.i (plain (address 0)))) =
    elim c.if-clashes.branch [
      | then-clashes w ↦ w.found-is ∙ sym (ap (λ (x : Bool). f || x) (k ∙ w.if-clashes.true) ∙ or-true f)
      | else-clashes w ↦ w.found-is ∙ sym (ap (λ (x : Bool). f || x) (k ∙ w.if-clashes.false) ∙ or-false f)
    ] in
    scan_turn (clashes_with a.n) (λ x xs. clashes a.n x) refl (λ x xs. refl) l c.loop-i.i f
    (clashes_with a.n (drop a.from l)) c.loop-i.invariant (plain (address 0)) _ (omega arith) e

pub returns : goal.returns
returns c =
    let a = c.args in
    let l = names a.self.addresses.now a.self.secondaries.now in
    let z = names_length a.self.addresses.now a.self.secondaries.now in
    scan_done (clashes_with a.n) (λ x xs. clashes a.n x) refl (λ x xs. refl) l c.loop-i.i c.loop-i.found
    (clashes_with a.n (drop a.from l)) c.loop-i.invariant (omega arith)
