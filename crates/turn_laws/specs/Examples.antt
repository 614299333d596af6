-- Bytes that are kept, beside the data byte of P7: a command and a status byte. "until an acceptor appears or the byte
-- is off offer" (document 02, Q-2)
-- Assumes nothing.
use Rattle.std.specs.Prelude.{◌≡◌, false, List, [], ◌∷◌, map}
use Rattle.parties.specs.Places.{place}
use Rattle.bus.specs.Types.ev
use Rattle.bus.specs.Types.ruling
use Rattle.bus.specs.Types.call_of
use Rattle.bus.specs.Types.act_of
use Rattle.bus.specs.Rows.{Run, outcome, expected, ok, moved, says, loses, refused, step, write, listen_only}
use Rattle.bus.specs.Rows.{drop_byte, clear, standby, run, sends}

-- A controller with nobody beside it. Its command stays held, so that a second write is refused, until the host drops
-- it: the source goes back to SGNS.
abbrev pub command : Run
command =
    run (5 ∷ []) (
    (clear 0, ok)
    ∷ (write 0 0x3f 1, ok)
    ∷ (step 0, moved)
    ∷ (step 0, says ev.Noacc 0x3f false)
    ∷ (step 0, says ev.Noacc 0x3f false)
    ∷ (write 0 0x14 0, refused ruling.Full)
    ∷ (drop_byte 0, loses 1 0)
    ∷ (step 0, moved)
    ∷ (step 0, ok)
    ∷ [])

-- A polled party with a byte of its own held, and nobody to read its status byte until the controller listens. The held
-- byte stays held all along.
abbrev pub status : Run
status =
    run (4 ∷ 5 ∷ []) (
    (call_of.Of (place 1) (act_of.PollRegister 0x01), ok)
    ∷ (clear 0, ok)
    ∷ sends 0x18 (
    (step 1, moved)
    ∷ sends 0x45 (
    (standby 0, ok)
    ∷ (write 1 0xaa 1, ok)
    ∷ (step 1, moved)
    ∷ (step 1, says ev.Noacc 0x01 false)
    ∷ (step 1, says ev.Noacc 0x01 false)
    ∷ (listen_only 0 1, ok)
    ∷ (step 0, moved)
    ∷ (step 1, says ev.Stat 0x01 false)
    ∷ (step 0, says ev.Took 0x01 false)
    ∷ (drop_byte 1, loses 1 0)
    ∷ [])))

abbrev pub rows : List Run
rows = command ∷ status ∷ []

abbrev pub Examples : Type 0
Examples = map outcome rows ≡ map expected rows
