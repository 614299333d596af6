-- The own status is what the list says.
-- Assumes nothing.
use mathlib.Core.Path.{refl}
use Rattle.turn_laws.proofs.Latched.{as_told}
use Rattle.poll_laws.specs.Kept.{status_by, StatusAsTold}

pub status_as_told : StatusAsTold
status_as_told = as_told (λ l. l.ist) status_by (λ p a l. refl) refl
