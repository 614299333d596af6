-- The words of a proved example. An example is a list of runs. A run is a build with its answer, then calls, each
-- beside the answer that it should have.
-- Assumes nothing.
use Rattle.std.specs.Prelude.{ℕ, Bool, false, List, [], ◌∷◌, map}
use Rattle.parties.specs.Places.{place}
use Rattle.addresses.specs.Addresses.{names}
use Rattle.bus.specs.Types.{Name, Event, Bus, Answer, Call, Refusal, Verdict}
use Rattle.bus.specs.Types.ruling
use Rattle.bus.specs.Types.ev
use Rattle.bus.specs.Types.call_of
use Rattle.bus.specs.Types.act_of
use Rattle.bus.specs.Record.{build_extended}
use Rattle.bus.specs.Machine.{call}
use Rattle.std.specs.Prelude.{Ok, Err}

-- An answer without its bus.
pub record Report : Type 0 where
  pub verdict : Verdict
  pub event : Event
  pub byte : ℕ
  pub end : Bool
  pub dropped : ℕ
  pub broken : ℕ

abbrev pub report_of : Answer → Report
report_of a = record {
  verdict = a.verdict;
  event = a.event;
  byte = a.byte;
  end = a.end;
  dropped = a.dropped;
  broken = a.broken;
}

pub record Run : Type 0 where
  pub names : List Name
  pub system : ℕ
  pub built : Report
  pub calls : List (Call × Report)

abbrev pub answers : Bus → List (Call × Report) → List Report
answers b [] = []
answers b (c ∷ cs) = report_of (call b c.0) ∷ answers (call b c.0).bus cs

abbrev pub outcome : Run → List Report
outcome r = report_of (build_extended r.names (place r.system)) ∷ answers
    (build_extended r.names (place r.system)).bus r.calls

abbrev pub expected : Run → List Report
expected r = r.built ∷ map (λ c. c.1) r.calls

-- The answers: bytes dropped and broken off; nothing to say; an event with its byte and END; moved; a refusal.
abbrev pub loses : ℕ → ℕ → Report
loses dropped broken = record {
  verdict = Ok tt;
  event = ev.None;
  byte = 0;
  end = false;
  dropped = dropped;
  broken = broken;
}

abbrev pub ok : Report
ok = loses 0 0

abbrev pub says : Event → ℕ → Bool → Report
says x v e = record { verdict = Ok tt; event = x; byte = v; end = e; dropped = 0; broken = 0 }

abbrev pub moved : Report
moved = says ev.Moved 0 false

abbrev pub refused : Refusal → Report
refused r = record { verdict = Err r; event = ev.None; byte = 0; end = false; dropped = 0; broken = 0 }

-- The calls.
abbrev pub step : ℕ → Call
step p = call_of.Of (place p) act_of.Step

abbrev pub write : ℕ → ℕ → ℕ → Call
write p v e = call_of.Of (place p) (act_of.Write v e)

abbrev pub read : ℕ → Call
read p = call_of.Of (place p) act_of.Read

abbrev pub listen_only : ℕ → ℕ → Call
listen_only p on = call_of.Of (place p) (act_of.ListenOnly on)

abbrev pub talk_only : ℕ → ℕ → Call
talk_only p on = call_of.Of (place p) (act_of.TalkOnly on)

abbrev pub drop_byte : ℕ → Call
drop_byte p = call_of.Of (place p) act_of.Drop

abbrev pub clear : ℕ → Call
clear p = call_of.Of (place p) act_of.InterfaceClear

abbrev pub standby : ℕ → Call
standby p = call_of.Of (place p) act_of.GoToStandby

-- A run from an accepted build, with party 0 the system party: of parties by name, and of parties without secondaries.
abbrev pub run_of : List Name → List (Call × Report) → Run
run_of names calls = record { names = names; system = 0; built = ok; calls = calls }

abbrev pub run : List ℕ → List (Call × Report) → Run
run addresses calls = run_of (names addresses []) calls

-- A build that is refused leaves the bus of no parties: no line is driven, and no party is there.
abbrev pub not_built_of : List Name → Run
not_built_of names = record {
  names = names;
  system = 0;
  built = refused ruling.BadBuild;
  calls = (call_of.Lines, says ev.Lines 0 false) ∷ (step 0, refused ruling.NoParty) ∷ [];
}

abbrev pub not_built : List ℕ → Run
not_built addresses = not_built_of (names addresses [])

-- Party 0 sends command v to party 1, whose acceptor is in ANRS.
abbrev pub sends : ℕ → List (Call × Report) → List (Call × Report)
sends v rest =
    (write 0 v 0, ok)
    ∷ (step 1, moved)
    ∷ (step 0, moved)
    ∷ (step 0, says ev.Cmd v false)
    ∷ (step 1, says ev.Heard v false)
    ∷ (step 1, moved)
    ∷ (step 0, says ev.Ended v false)
    ∷ rest
