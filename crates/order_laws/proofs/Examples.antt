-- The machine computes the examples.
-- Assumes nothing.
use mathlib.Core.Path.{◌≡◌, refl, ap}
use mathlib.Core.List.{List, [], ◌∷◌, map}
use Prim.Native.Nat.{ℕ}
use lib.ListN.{length}
use Rattle.role.proofs.Logic.{no}
use Rattle.message.specs.Meaning.{meaning_of, seven_bits, named}
use Rattle.parties.specs.Places.{place}
use Rattle.addresses.specs.Addresses.{names}
use Rattle.bus.specs.Types.ev
use Rattle.bus.specs.Rows.{Report}
use Rattle.runner.specs.Runner.{steps}
use Rattle.runner.specs.Ties.{by_address}
use Rattle.runner.specs.Lists.{LedTo, call, built, led}
use Rattle.order_laws.specs.Orders.{Swapped, NoSources, SameDumps}
use Rattle.order_laws.specs.Examples.{one_ready, waiting, OrderExamples}
use Rattle.order_laws.proofs.Orders.{nobody, no_more}

led_to : LedTo waiting
led_to = (names (5 ∷ 6 ∷ 7 ∷ []) [], led (built (place 0) refl) by_address (map (λ c. call c.0) one_ready))

none : NoSources waiting (1 ∷ 2 ∷ 2 ∷ [])
none = no_more waiting 1 (2 ∷ 2 ∷ []) refl
    (no_more waiting 2 (2 ∷ []) refl (no_more waiting 2 [] refl (nobody waiting)))

-- the talker's byte goes up after party 2, and not before
not_a_source : Swapped waiting 2 0 → ⊥
not_a_source S = apart (ap (λ (r : Report). r.event) S.other)
  where
    apart : ev.Data ≡ ev.None → ⊥
    apart e = no (cc)

-- party 2 has one answer, or two
not_twice_lem : SameDumps waiting (steps (1 ∷ 2 ∷ [])) (steps (2 ∷ 1 ∷ 2 ∷ [])) → ⊥
not_twice_lem S = apart (ap (λ (rs : List Report). length rs) (S.answers 2))
  where
    apart : ◌≡◌ {A = ℕ} 1 2 → ⊥
    apart e = no (cc)

pub examples : OrderExamples
unfolding meaning_of seven_bits named
examples = record {
  answers = refl;
  led = led_to;
  talker = refl;
  loggers = none;
  not_a_source = not_a_source;
  not_twice = not_twice_lem;
}
