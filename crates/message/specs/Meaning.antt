-- The table of 256 meanings.
-- Assumes nothing.
use Rattle.std.specs.Prelude.{ℕ, ◌-◌, ◌%◌, cond, ltb, eqb}
use Rattle.message.specs.declared.Address.{Address}
use Rattle.message.specs.declared.SecondaryAddress.{SecondaryAddress}
use Rattle.message.specs.declared.Meaning.{Meaning}
use Rattle.message.specs.declared.Meaning.TheVariants.{Other, Listen, Unlisten, Talk, Untalk, Sdc, Get, Tct, Dcl}
use Rattle.message.specs.declared.Meaning.TheVariants.{Spe, Spd, Second, Neither, Ppc, Ppu}

abbrev pub address : ℕ → Address
address a = record { 0 = a }

abbrev pub secondary : ℕ → SecondaryAddress
secondary s = record { 0 = s }

-- "04 SDC, 08 GET, 09 TCT, 14 DCL, 18 SPE, 19 SPD; all else no meaning". Document 02, Q-8: PPC (05), PPU (15).
unfoldable pub named : ℕ → Meaning
named n =
    cond (eqb n 0x04) Sdc
    (cond (eqb n 0x05) Ppc
    (cond (eqb n 0x08) Get
    (cond (eqb n 0x09) Tct
    (cond (eqb n 0x14) Dcl
    (cond (eqb n 0x15) Ppu
    (cond (eqb n 0x18) Spe
    (cond (eqb n 0x19) Spd Other)))))))

-- "20+a listen address, 3F UNL, 40+a talk address, 5F UNT (a in 0..1E)". Document 02, Q-3: "60 to 7E secondaries, 7F
-- neither".
unfoldable pub seven_bits : ℕ → Meaning
seven_bits n =
    cond (ltb n 0x20) (named n)
    (cond (ltb n 0x3f) (Listen (address (n - 0x20)))
    (cond (eqb n 0x3f) Unlisten
    (cond (ltb n 0x5f) (Talk (address (n - 0x40)))
    (cond (eqb n 0x5f) Untalk
    (cond (ltb n 0x7f) (Second (secondary (n - 0x60))) Neither)))))

-- "hexadecimal: entry b is entry b mod 80"
unfoldable pub meaning_of : ℕ → Meaning
meaning_of b = seven_bits (b % 0x80)

-- The code that stands for a meaning in the constant table.
abbrev pub code_of : Meaning → ℕ
code_of Other = 0
code_of (Listen a) = 1
code_of Unlisten = 2
code_of (Talk a) = 3
code_of Untalk = 4
code_of Sdc = 5
code_of Get = 6
code_of Tct = 7
code_of Dcl = 8
code_of Spe = 9
code_of Spd = 10
code_of (Second s) = 11
code_of Neither = 12
code_of Ppc = 13
code_of Ppu = 14

-- The meaning of a code, with the number that the byte carries.
unfoldable pub decode : ℕ → ℕ → Meaning
decode c n =
    cond (eqb c 1) (Listen (address n))
    (cond (eqb c 2) Unlisten
    (cond (eqb c 3) (Talk (address n))
    (cond (eqb c 4) Untalk
    (cond (eqb c 5) Sdc
    (cond (eqb c 6) Get
    (cond (eqb c 7) Tct
    (cond (eqb c 8) Dcl
    (cond (eqb c 9) Spe
    (cond (eqb c 10) Spd
    (cond (eqb c 11) (Second (secondary n))
    (cond (eqb c 12) Neither
    (cond (eqb c 13) Ppc
    (cond (eqb c 14) Ppu Other)))))))))))))
