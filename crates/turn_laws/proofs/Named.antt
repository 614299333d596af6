-- No call changes a name, on any bus: hearing, reset, interface clear, attention and settling all leave it.
-- Assumes nothing.
use mathlib.Core.Path.{◌≡◌, refl, ap, ◌∙◌}
use mathlib.Core.List.{List, [], ◌∷◌}
use Prim.Native.Nat.{ℕ}
use lib.ListN.{get_or}
use Rattle.std.specs.Prelude.{Ok}
use Rattle.message.specs.Meaning.{address}
use Rattle.names.specs.Names.{plain}
use Rattle.role.proofs.Logic.{no, cond-elim}
use Rattle.party.specs.declared.Latches.{Latches}
use Rattle.parties.proofs.Places.{set_part}
use Rattle.effect.specs.Calls.{is_accepted, place_of}
use Rattle.accepted.specs.Accepted.{effect_of}
use Rattle.addresses.specs.Addresses.{bad_build}
use Rattle.bus.specs.Record.{lines}
use Rattle.bus.specs.Machine as m
use Rattle.bus.specs.declared.Bus.{Bus}
use Rattle.bus.specs.declared.Answer.{Answer}
use Rattle.bus.specs.Types.{Name, Party, Call}
use Rattle.addresses.proofs.Unrefused.{fits}
use Rattle.bus.proofs.Built.{placed_at}
use Rattle.runner.specs.Ties.{name_at}
use Rattle.runner.specs.Lists.{expanded, built, led}
use Rattle.runner.proofs.Lists.{stands_for_steps}
use Rattle.turn_laws.specs.Turns.{Named}
use Rattle.turn_laws.proofs.Kept.{effect_kept, accepted_kept}

abbrev name_of : Party → Name
name_of p = p.role.name

pub call_names : (b : Bus) (c : Call) (j : ℕ) → name_at (m.call b c).bus j ≡ name_at b j
call_names b c j =
    let i = (place_of c).0 in
    let v = m.view_at (place_of c) (lines b) b in
    let q = (effect_of v c).party in
    cond-elim (λ (a : Answer). name_at a.bus j ≡ name_at b j) (is_accepted (m.verdict (lines b) b c))
    (λ _. ap (λ (x : Name × Latches). x.0) (accepted_kept b c j)
    ∙ set_part name_of b.parties i q (ap (λ (x : Name × Latches). x.0) (effect_kept v c)) j)
    (λ _. refl)

run_names : (b : Bus) (cs : List Call) (j : ℕ) → name_at (m.run b cs) j ≡ name_at b j
run_names b [] j = refl
run_names b (c ∷ cs) j = run_names (m.call b c).bus cs j ∙ call_names b c j

pub named : Named
named names _ (led {b} (built system ok) tie xs) p h =
    ap (λ (c : Bus). name_at c p) (stands_for_steps tie b xs) ∙ run_names b (expanded tie b xs) p
    ∙ cond-elim (λ (a : Answer). a.verdict ≡ Ok tt → name_at a.bus p ≡ get_or names p (plain (address 0)))
    (bad_build names system)
    (λ _ r. no (cc))
    (λ e _. ap name_of (placed_at 15 names p h (fits names system e)))
    ok
