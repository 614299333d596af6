-- Proved examples of who drives the lines: a build, calls, and the masks and counts of the bus that they lead to.
-- Assumes nothing.
use Rattle.std.specs.Prelude.{ℕ, ◌≡◌, List, [], ◌∷◌, map}
use Rattle.parties.specs.Places.{place}
use Rattle.bus.specs.Types.{EachLine, Call}
use Rattle.bus.specs.Types.call_of
use Rattle.bus.specs.Types.act_of
use Rattle.bus.specs.Record.{build}
use Rattle.bus.specs.Machine.{run}
use Rattle.bus.specs.Drivers.{masks, counts}
use Rattle.bus.specs.Rows.{step, write, listen_only, talk_only, clear}

-- The parties at these addresses, party 0 the system party.
pub record Case : Type 0 where
  pub addresses : List ℕ
  pub calls : List Call
  pub masks : EachLine ℕ
  pub counts : EachLine ℕ

abbrev pub found : Case → EachLine ℕ × EachLine ℕ
found c = let b = run (build c.addresses (place 0)).bus c.calls in (masks b, counts b)

abbrev pub stated : Case → EachLine ℕ × EachLine ℕ
stated c = (c.masks, c.counts)

-- Lines in the order ATN, DAV, NRFD, NDAC, EOI, SRQ.
abbrev pub each_line : ℕ → ℕ → ℕ → ℕ → ℕ → ℕ → EachLine ℕ
each_line a d r c e s = record { atn = a; dav = d; nrfd = r; ndac = c; eoi = e; srq = s }

-- Party 0 talks, with a byte to send, and parties 1 to 3 listen: all are ready, and the byte is put up.
abbrev offered : ℕ → List Call → List Call
offered end rest =
    talk_only 0 1 ∷ listen_only 1 1 ∷ listen_only 2 1 ∷ listen_only 3 1 ∷ write 0 0x41 end
    ∷ step 1 ∷ step 2 ∷ step 3 ∷ step 0 ∷ step 0 ∷ rest

abbrev pub cases : List Case
cases =
    -- A refused build: there is nobody.
    record { addresses = 31 ∷ []; calls = []; masks = each_line 0 0 0 0 0 0; counts = each_line 0 0 0 0 0 0 }
    -- The lines of P2: 78 hexadecimal is DAV, NDAC, NRFD and EOI.
    ∷ record {
      addresses = 5 ∷ 6 ∷ [];
      calls = talk_only 0 1 ∷ listen_only 1 1 ∷ write 0 0x41 1 ∷ step 0 ∷ step 1 ∷ step 0 ∷ step 1 ∷ [];
      masks = each_line 0 0b01 0b10 0b10 0b01 0;
      counts = each_line 0 1 1 1 1 0;
    }
    -- A byte with END stands before three ready listeners, who do not drive EOI.
    ∷ record {
      addresses = 1 ∷ 2 ∷ 3 ∷ 4 ∷ [];
      calls = offered 1 [];
      masks = each_line 0 0b0001 0 0b1110 0b0001 0;
      counts = each_line 0 1 0 3 1 0;
    }
    -- Party 2 has taken it, party 3 took it and let NDAC go, party 1 is still ready.
    ∷ record {
      addresses = 1 ∷ 2 ∷ 3 ∷ 4 ∷ [];
      calls = offered 0 (step 2 ∷ step 3 ∷ step 3 ∷ []);
      masks = each_line 0 0b0001 0b1100 0b0110 0 0;
      counts = each_line 0 1 2 2 0 0;
    }
    -- A bus that hangs: the byte has ended, nobody has read, and who is not ready for the next one holds NRFD and NDAC.
    ∷ record {
      addresses = 1 ∷ 2 ∷ 3 ∷ 4 ∷ [];
      calls = offered 0 (
          step 1 ∷ step 2 ∷ step 3 ∷ step 1 ∷ step 2 ∷ step 3 ∷ step 0 ∷ step 1 ∷ step 2 ∷ step 3
          ∷ call_of.Of (place 2) act_of.Read ∷ step 1 ∷ step 2 ∷ step 3 ∷ []);
      masks = each_line 0 0 0b1010 0b1110 0 0;
      counts = each_line 0 0 2 3 0 0;
    }
    -- The system party takes charge, and two others ask for service.
    ∷ record {
      addresses = 1 ∷ 2 ∷ 3 ∷ 4 ∷ [];
      calls = clear 0
          ∷ call_of.Of (place 1) (act_of.PollRegister 0x40) ∷ call_of.Of (place 3) (act_of.PollRegister 0x41) ∷ [];
      masks = each_line 0b0001 0 0b1110 0b1110 0 0b1010;
      counts = each_line 1 0 3 3 0 2;
    }
    ∷ []

abbrev pub DriverExamples : Type 0
DriverExamples = map found cases ≡ map stated cases
