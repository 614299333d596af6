-- Who keeps the response and the own status (document 02, Q-8, which is quoted).
-- Assumes nothing.
use Rattle.std.specs.Prelude.{ℕ, ◌≡◌, Bool, true, false, cond, ◌&&◌, ◌||◌, List, eqb, Option, None, Ok}
use Rattle.message.specs.Meaning.{meaning_of}
use Rattle.role.specs.declared.Mark.{Mark}
use Rattle.role.specs.declared.Mark.TheVariants.{Unmarked, TalkPrimary, ListenPrimary, Configuring}
use Rattle.role.specs.declared.Response.{Response}
use Rattle.role.specs.declared.Role.{Role}
use Rattle.role.specs.Roles.{role_heard}
use Rattle.parties.specs.Places.{place}
use Rattle.effect.specs.Calls.{act_number, switch_of, is_on}
use Rattle.bus.specs.declared.Bus.{Bus}
use Rattle.bus.specs.Types.{Place, Name, Event, Act, Call}
use Rattle.bus.specs.Types.call_of
use Rattle.bus.specs.Types.act_of
use Rattle.bus.specs.Record.{here, lines}
use Rattle.bus.specs.Machine as m
use Rattle.bus.specs.Delivery.{history, is_take, is_end}
use Rattle.runner.specs.Waiting.{TieOrder}
use Rattle.runner.specs.Lists.{Item, led_by, expanded, Start, LedTo}
use Rattle.turn_laws.specs.Told.{told}

abbrev pub status_at : Bus → ℕ → Bool
status_at b q = (here b q).latches.ist

-- What an accepted act leaves of its party's own status: own status (19) sets it, and every other act leaves it.
abbrev pub status_by : Act → Bool → Bool
status_by a was = cond (eqb (act_number a) 19) (is_on (switch_of a)) was

-- "The host sets each party's own status to 0 or 1 (0 at build, kept by reset)": from a start, over every list of calls
-- and runs, it is what the list says, and nothing else touches it.
abbrev pub StatusAsTold : Type 0
StatusAsTold = (names : List Name) (b : Bus) → Start names b → (tie : Bus → TieOrder) (xs : List Item) (q : ℕ)
    → status_at (led_by tie b xs) q ≡ told status_by q (history b (expanded tie b xs)) false

-- A party's response, and whether it is configuring.
abbrev pub is_configuring : Mark → Bool
is_configuring Unmarked = false
is_configuring TalkPrimary = false
is_configuring ListenPrimary = false
is_configuring Configuring = true

abbrev pub configuration : Role → Option Response × Bool
configuration r = (r.response, is_configuring r.mark)

abbrev pub configuration_at : Bus → ℕ → Option Response × Bool
configuration_at b j = configuration (here b j).role

-- Nothing changes a party's response and configuring but its own turns and its own reset, on any bus: not attention,
-- not interface clear, not the turns of others.
abbrev pub ConfigurationKept : Type 0
ConfigurationKept = (b : Bus) (c : Call) (j : ℕ)
    → (c ≡ call_of.Of (place j) act_of.Step → ⊥) → (c ≡ call_of.Of (place j) act_of.Reset → ⊥)
    → configuration_at (m.call b c).bus j ≡ configuration_at b j

-- Does an answer say that its party has heard a byte: who takes one with ATN true, and whose own has ended, since "a
-- command is then heard by its own sender too".
abbrev pub has_heard : Bool → Event → Bool
has_heard atn x = (is_take x || is_end x) && atn

-- In its own turn a party's response and configuring are what the byte leaves of them that it hears, and as they were
-- where it hears none: "PPC (05) heard while listening marks a party", "60 to 6F .. sets the response", "PPU (15)
-- removes it". On every bus that is led to.
abbrev pub ConfiguredByHearing : Type 0
ConfiguredByHearing = (b : Bus) → LedTo b → (p : Place)
    → let a = m.call b (call_of.Of p act_of.Step) in let r = (here b p.0).role in
    configuration_at a.bus p.0
    ≡ configuration (cond (has_heard (lines b).atn a.event) (role_heard (meaning_of a.byte) r) r)

-- "reset removes it and the mark": an accepted reset leaves its party unconfigured, on every bus that is led to.
abbrev pub ResetUnconfigures : Type 0
ResetUnconfigures = (b : Bus) → LedTo b → (j : ℕ) → let a = m.call b (call_of.Of (place j) act_of.Reset) in
    a.verdict ≡ Ok tt → configuration_at a.bus j ≡ (None, false)
