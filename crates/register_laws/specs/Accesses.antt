-- "Each access equals the host call or calls that it stands for, and a list of accesses keeps delivery and totals."
-- (document 02, Q-6; what else is quoted is Q-6 too)
-- Assumes nothing.
use Rattle.std.specs.Prelude.{ℕ, ◌<◌, ◌%◌, ◌/◌, ◌≡◌, Bool, true, false, cond, ◌&&◌, ◌||◌, List, map, eqb, set, Ok, Err}
use Rattle.party.specs.Parts.{one}
use Rattle.parties.specs.Places.{place}
use Rattle.effect.specs.Calls.{is_accepted}
use Rattle.refusals.specs.Refusals.{is_inside}
use Rattle.host_calls.specs.HostCalls.{marked_end}
use Rattle.registers.specs.declared.Access.{Access}
use Rattle.registers.specs.declared.Access.TheVariants.{Read, Write}
use Rattle.registers.specs.Registers.{stands_for}
use Rattle.bus.specs.declared.Bus.{Bus}
use Rattle.bus.specs.declared.Answer.{Answer}
use Rattle.bus.specs.Types.{Place, Name, Call}
use Rattle.bus.specs.Types.ruling
use Rattle.bus.specs.Types.call_of
use Rattle.bus.specs.Types.act_of
use Rattle.bus.specs.Record.{here, refuse, accept, build_extended}
use Rattle.bus.specs.Machine as m
use Rattle.bus.specs.Delivery.{Delivered, is_write}
use Rattle.runner.specs.Runner.{step_of}
use Rattle.runner.specs.Lists.{LedTo}

-- The bus with the mark of the party at a place on or off, and all else as it was; and an answer with that bus.
abbrev pub with_end_mark : Bool → ℕ → Bus → Bus
with_end_mark on i b = record {
  parties = set b.parties i (marked_end on (here b i));
  count = b.count;
  system = b.system;
  standing = b.standing;
}

abbrev pub answered_with_end_mark : Bool → ℕ → Answer → Answer
answered_with_end_mark on i a = record {
  verdict = a.verdict;
  event = a.event;
  byte = a.byte;
  end = a.end;
  dropped = a.dropped;
  broken = a.broken;
  bus = with_end_mark on i a.bus;
}

-- The host's write with END as the party is marked.
abbrev pub marked_write : Bus → Place → ℕ → Answer
marked_write b p v = m.call b (call_of.Of p (act_of.Write v (one (here b p.0).latches.feoi)))

-- "Auxiliary codes carried: swrst, nbaf, feoi, lon, ton, gts, tca, sic, rsv2"
abbrev pub is_carried_code : ℕ → Bool
is_carried_code c = eqb c 0 || eqb c 5 || eqb c 8 || eqb c 9 || eqb c 10 || eqb c 11 || eqb c 12 || eqb c 15 || eqb c 24

-- "Carried: writes 3 (auxiliary), 5 (serial poll), 7 (data out); reads 3 (bus status), 7 (data in)"
abbrev pub is_carried : Access → Bool
is_carried (Read o) = eqb o 3 || eqb o 7
is_carried (Write o v) = (eqb o 3 && is_carried_code (v % 32)) || eqb o 5 || eqb o 7

-- The accesses to the registers of a party that is there. A code is the value mod 32, whatever bits 32 and 64 are; the
-- set bit is 128.
pub record Accesses (b : Bus) (p : Place) : Type 0 where
  -- Read 3 is the lines, read 7 the host's read, and write 5 the poll register.
  pub status : m.accessed b p (Read 3) ≡ m.call b call_of.Lines
  pub input : m.accessed b p (Read 7) ≡ m.call b (call_of.Of p act_of.Read)
  pub poll : (v : ℕ) → m.accessed b p (Write 5 v) ≡ m.call b (call_of.Of p (act_of.PollRegister v))
  -- Write 7 is the host's write with END as marked. Accepted it uses the mark up, and refused it leaves it.
  pub out : (v : ℕ) → m.accessed b p (Write 7 v)
      ≡ cond (is_accepted (marked_write b p v).verdict) (answered_with_end_mark false p.0 (marked_write b p v))
      (marked_write b p v)
  -- "with the set bit as the switch"
  pub lon : (v : ℕ) → v % 32 ≡ 9 → m.accessed b p (Write 3 v) ≡ m.call b (call_of.Of p (act_of.ListenOnly (v / 128)))
  pub ton : (v : ℕ) → v % 32 ≡ 10 → m.accessed b p (Write 3 v) ≡ m.call b (call_of.Of p (act_of.TalkOnly (v / 128)))
  pub rsv2 : (v : ℕ) → v % 32 ≡ 24
      → m.accessed b p (Write 3 v) ≡ m.call b (call_of.Of p (act_of.SecondRequest (v / 128)))
  -- "swrst set is reset; swrst cleared and sic cleared do nothing."
  pub swrst : (v : ℕ) → v % 32 ≡ 0 → v / 128 ≡ 1 → m.accessed b p (Write 3 v) ≡ m.call b (call_of.Of p act_of.Reset)
  pub swrst_cleared : (v : ℕ) → v % 32 ≡ 0 → v / 128 ≡ 0 → m.accessed b p (Write 3 v) ≡ accept b
  pub sic : (v : ℕ) → v % 32 ≡ 15 → v / 128 ≡ 1
      → m.accessed b p (Write 3 v) ≡ m.call b (call_of.Of p act_of.InterfaceClear)
  pub sic_cleared : (v : ℕ) → v % 32 ≡ 15 → v / 128 ≡ 0 → m.accessed b p (Write 3 v) ≡ accept b
  -- "nbaf is drop."; "For nbaf, feoi, gts and tca the set bit is ignored".
  pub nbaf : (v : ℕ) → v % 32 ≡ 5 → m.accessed b p (Write 3 v) ≡ m.call b (call_of.Of p act_of.Drop)
  pub gts : (v : ℕ) → v % 32 ≡ 11 → m.accessed b p (Write 3 v) ≡ m.call b (call_of.Of p act_of.GoToStandby)
  pub tca : (v : ℕ) → v % 32 ≡ 12 → m.accessed b p (Write 3 v) ≡ m.call b (call_of.Of p act_of.TakeControl)
  -- "feoi marks the next byte": the mark is on, and nothing else has changed.
  pub feoi : (v : ℕ) → v % 32 ≡ 8 → m.accessed b p (Write 3 v) ≡ accept (with_end_mark true p.0 b)
  -- "11 NOREG for any other offset or auxiliary code": just there.
  pub no_reg : (a : Access) → is_carried a ≡ false → m.accessed b p a ≡ refuse ruling.NoReg b
  pub no_other : (a : Access) → (m.accessed b p a).verdict ≡ Err ruling.NoReg → is_carried a ≡ false

-- On every bus that a start, calls and runs lead to.
abbrev pub EachAccess : Type 0
EachAccess = (b : Bus) → LedTo b → (p : Place) → is_inside b.count p.0 ≡ true → Accesses b p

-- "after NOPARTY and before the rest": where there is no such party, on any bus.
abbrev pub NobodyThere : Type 0
NobodyThere = (b : Bus) (p : Place) → is_inside b.count p.0 ≡ false
    → (a : Access) → m.accessed b p a ≡ refuse ruling.NoParty b

-- Any byte may be written to any register: none is refused for its value, on any bus. A code's switch is 0 or 1 by
-- itself.
abbrev pub AnyByte : Type 0
AnyByte = (b : Bus) (p : Place) (o v : ℕ) → v < 256 → (m.accessed b p (Write o v)).verdict ≡ Err ruling.BadValue → ⊥

-- What a rack does for drivers that know the chip alone: a party's turn, or an access.
pub data Use : Type 0 where
  turn : ℕ → Use
  access : ℕ → Access → Use

abbrev pub call_for : Use → Call
call_for (turn p) = step_of p
call_for (access p a) = call_of.Of (place p) (stands_for a)

-- "a list of accesses keeps delivery and totals": demand 3 of every such list.
abbrev pub AccessesDelivered : Type 0
AccessesDelivered = (names : List Name) (system : Place) → (build_extended names system).verdict ≡ Ok tt
    → (xs : List Use) → Delivered (build_extended names system).bus (map call_for xs)

-- Its host bytes accepted are the accepted writes through offset 7.
abbrev pub through_data_out : Access → Bool
through_data_out (Read o) = false
through_data_out (Write o v) = eqb o 7

abbrev pub HostBytes : Type 0
HostBytes = (p : Place) (a : Access) → is_write (call_of.Of p (stands_for a)) ≡ through_data_out a
