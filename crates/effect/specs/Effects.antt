-- What a call does: the words for an effect on its own party and on what stands.
-- Assumes nothing.
use Rattle.std.specs.Prelude.{ℕ, Bool, false, Option}
use Rattle.effect.specs.Types.{Party, Standing, Event, Said, After, Outcome, Effect, View}
use Rattle.effect.specs.Types.ev
use Rattle.effect.specs.Types.after

abbrev pub say : Event → ℕ → Bool → ℕ → Said
say x v e d = record { event = x; byte = v; end = e; dropped = d }

-- An effect on party p on which settling follows, and no more.
abbrev pub does : Said → Party → Option Standing → Effect
does s p st = record { said = s; after = after.Settle; party = p; standing = st }

-- A step with no event; "moved (a step that changed the party's source or acceptor state and has no other event)".
abbrev pub stay : View → Effect
stay v = does (say ev.None 0 false 0) v.party v.standing

abbrev pub moved : View → Party → Effect
moved v q = does (say ev.Moved 0 false 0) q v.standing

-- "An accepted host call other than read and lines has event none": one that drops d held bytes and says nothing more.
abbrev pub quiet : ℕ → Party → Outcome
quiet d q = record { said = say ev.None 0 false d; after = after.Settle; party = q }

-- The same, with something else to follow.
abbrev pub then : After → Outcome → Outcome
then x o = record o { after = x }

-- What a host call does on a bus on which st stands: it lets that stand.
abbrev pub with_standing : Option Standing → Outcome → Effect
with_standing st o = record { said = o.said; after = o.after; party = o.party; standing = st }
