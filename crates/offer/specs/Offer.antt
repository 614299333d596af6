-- A byte on offer (document 01, "Source step").
-- Assumes nothing.
use Rattle.std.specs.Prelude.{ℕ, Bool, false, cond, Option, None}
use Rattle.event.specs.declared.Event.{Event}
use Rattle.event.specs.declared.Event.TheVariants as ev
use Rattle.offer.specs.declared.Byte.{Byte}
use Rattle.offer.specs.declared.Kind.{Kind}
use Rattle.offer.specs.declared.Kind.TheVariants.{Command, Data, Status}

-- A byte with END or without.
abbrev pub byte : ℕ → Bool → Byte
byte v e = record { value = v; end = e }

-- "Kinds: command if active (END off), status if polled (END off), else data."
abbrev pub kind_of : Bool → Bool → Kind
kind_of active polled = cond active Command (cond polled Status Data)

abbrev pub end_of : Kind → Bool → Bool
end_of Command e = false
end_of Data e = e
end_of Status e = false

-- "cmd, data, stat (puts)"
abbrev pub put_event : Kind → Event
put_event Command = ev.Cmd
put_event Data = ev.Data
put_event Status = ev.Stat

-- The held register once the byte on offer has been put. "A polled party's held byte stays held."
abbrev pub spent : Kind → Option Byte → Option Byte
spent Command s = None
spent Data s = None
spent Status s = s
