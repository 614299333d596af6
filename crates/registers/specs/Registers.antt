-- Which act of its party an access to a register of the chip stands for: "Each access equals the host call or calls
-- that it stands for" (document 02, Q-6). What is quoted is Q-6; the numbers are those of document 001, tables 2-1 to
-- 2-3.
-- Assumes nothing.
use Rattle.std.specs.Prelude.{ℕ, ◌%◌, ◌/◌, cond, eqb, Option, Some, None}
use Rattle.effect.specs.Calls.{is_on}
use Rattle.registers.specs.Types.{Act, Access, Auxiliary}
use Rattle.registers.specs.Types.act_of
use Rattle.registers.specs.Types.access
use Rattle.registers.specs.Types.aux

-- "Auxiliary codes carried: swrst, nbaf, feoi, lon, ton, gts, tca, sic, rsv2": table 2-3's bits f4 to f0.
unfoldable pub auxiliary_of : ℕ → Option Auxiliary
auxiliary_of code =
    cond (eqb code 0) (Some aux.Swrst) (
    cond (eqb code 5) (Some aux.Nbaf) (
    cond (eqb code 8) (Some aux.Feoi) (
    cond (eqb code 9) (Some aux.Lon) (
    cond (eqb code 10) (Some aux.Ton) (
    cond (eqb code 11) (Some aux.Gts) (
    cond (eqb code 12) (Some aux.Tca) (
    cond (eqb code 15) (Some aux.Sic) (
    cond (eqb code 24) (Some aux.Rsv2) None))))))))

-- "swrst set is reset; swrst cleared and sic cleared do nothing."
abbrev pub when_set : ℕ → Act → Act
when_set on a = cond (is_on on) a act_of.DoNothing

-- "with the set bit as the switch"; "For nbaf, feoi, gts and tca the set bit is ignored".
abbrev pub commanded : Auxiliary → ℕ → Act
commanded aux.Swrst on = when_set on act_of.Reset
-- "nbaf is drop."
commanded aux.Nbaf on = act_of.Drop
commanded aux.Feoi on = act_of.MarkEnd
commanded aux.Lon on = act_of.ListenOnly on
commanded aux.Ton on = act_of.TalkOnly on
commanded aux.Gts on = act_of.GoToStandby
commanded aux.Tca on = act_of.TakeControl
commanded aux.Sic on = when_set on act_of.InterfaceClear
commanded aux.Rsv2 on = act_of.SecondRequest on

-- "NOREG for any other .. auxiliary code"
abbrev pub commanded_by : Option Auxiliary → ℕ → Act
commanded_by (Some command) on = commanded command on
commanded_by None on = act_of.NoRegister

-- "reads 3 (bus status), 7 (data in)"; "NOREG for any other offset".
abbrev pub read_from : ℕ → Act
read_from offset = cond (eqb offset 3) act_of.BusStatus (cond (eqb offset 7) act_of.Read act_of.NoRegister)

-- "writes 3 (auxiliary), 5 (serial poll), 7 (data out)". The set bit is 128, "and a code's bits 32 and 64 always are"
-- ignored.
abbrev pub written_to : ℕ → ℕ → Act
written_to offset value =
    cond (eqb offset 3) (commanded_by (auxiliary_of (value % 32)) (value / 128)) (
    cond (eqb offset 5) (act_of.PollRegister value) (
    cond (eqb offset 7) (act_of.DataOut value) act_of.NoRegister))

abbrev pub stands_for : Access → Act
stands_for (access.Read offset) = read_from offset
stands_for (access.Write offset value) = written_to offset value
