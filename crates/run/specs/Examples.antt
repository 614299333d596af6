-- Scripts with the text that document 01 asks for, byte by byte: its own script, an empty one, a wrong mark, a short
-- tail, an unknown operation, and the second request bit of document 02, Q-5: its refusals, and a request that a poll
-- answers.
-- Assumes nothing.
use Rattle.std.specs.Prelude.{ℕ, ◌≡◌, List, [], ◌∷◌, ◌++◌}
use Rattle.event.specs.Words.{codes}
use Rattle.run.specs.Run.{text_of}

-- A record with the mark, before the rest of a script.
abbrev rec : ℕ → ℕ → ℕ → ℕ → List ℕ → List ℕ
rec op party value extra rest = 0x47 ∷ 0x42 ∷ op ∷ party ∷ value ∷ extra ∷ rest

-- "Script, hexadecimal after the mark: 00000205, 06000100, 05010100, 02004101, 01000000, 01010000, 01000000, 01010000,
-- 01000000, 01010000, 01000000, 03010000."
abbrev pub script : List ℕ
script =
    rec 0 0 2 5 (rec 6 0 1 0 (rec 5 1 1 0
    (rec 2 0 0x41 1 (rec 1 0 0 0
    (rec 1 1 0 0 (rec 1 0 0 0 (rec 1 1 0 0 (rec 1 0 0 0 (rec 1 1 0 0 (rec 1 0 0 0 (rec 3 1 0 0 [])))))))))))

-- Party 0 sends a command, and party 1 hears it.
abbrev sends : ℕ → List ℕ → List ℕ
sends c rest =
    rec 2 0 c 0 (rec 1 0 0 0 (rec 1 1 0 0 (rec 1 0 0 0 (rec 1 1 0 0 (rec 1 1 0 0 (rec 1 0 0 0 (rec 1 1 0 0 rest)))))))

-- Party 1 has 01 in its poll register and asks by its second request bit: SRQ is on. Party 0 takes charge, sends SPE
-- and party 1's talk address, and listens.
abbrev asks : List ℕ → List ℕ
asks rest =
    rec 0 0 2 4 (rec 4 1 1 0 (rec 13 1 1 0 (rec 12 0 0 0 (rec 9 0 0 0 (sends 0x18 (sends 0x45
    (rec 8 0 0 0 (rec 5 0 1 0 rest))))))))

-- The status byte is put, taken and read. Party 0 breaks the poll off, sees the lines, and polls again.
abbrev answered : List ℕ
answered =
    rec 1 0 0 0 (rec 1 1 0 0 (rec 1 1 0 0 (rec 1 0 0 0
    (rec 1 0 0 0 (rec 1 1 0 0 (rec 3 0 0 0 (rec 1 0 0 0
    (rec 7 0 0 0 (rec 12 0 0 0 (rec 8 0 0 0
    (rec 1 0 0 0 (rec 1 1 0 0 (rec 1 1 0 0 [])))))))))))))

pub record Holds : Type 0 where
  pub document : text_of script
      ≡ codes "1 0 none -- 0 0 0\n2 0 none -- 0 0 0\n3 0 none -- 0 0 0\n4 0 none -- 0 0 0\n"
      ++ codes "5 0 moved -- 0 0 0\n6 0 moved -- 0 0 0\n7 0 data 41 1 0 0\n8 0 took 41 1 0 0\n"
      ++ codes "9 0 none -- 0 0 0\n10 0 moved -- 0 0 0\n11 0 ended 41 1 0 0\n12 0 read 41 1 0 0\n"
  pub empty : text_of [] ≡ []
  pub wrong_mark : text_of (rec 0 0 1 5 (0x47 ∷ 0x43 ∷ 1 ∷ 0 ∷ 0 ∷ 0 ∷ rec 1 0 0 0 []))
      ≡ codes "1 0 none -- 0 0 0\n2 10 none -- 0 0 0\n"
  pub short_tail : text_of (rec 12 0 0 0 (0x47 ∷ 0x42 ∷ 1 ∷ [])) ≡ codes "1 0 lines 00 0 0 0\n2 10 none -- 0 0 0\n"
  pub unknown : text_of (rec 14 0 0 0 (rec 0 0 16 0 [])) ≡ codes "1 3 none -- 0 0 0\n2 2 none -- 0 0 0\n"
  pub second_request : text_of (rec 0 0 2 5 (rec 13 1 1 9 (rec 12 0 0 0 (rec 13 1 2 0 (rec 13 2 2 0 [])))))
      ≡ codes "1 0 none -- 0 0 0\n2 0 none -- 0 0 0\n3 0 lines 04 0 0 0\n4 3 none -- 0 0 0\n5 1 none -- 0 0 0\n"
  pub polled_away : text_of (asks answered)
      ≡ codes "1 0 none -- 0 0 0\n2 0 none -- 0 0 0\n3 0 none -- 0 0 0\n4 0 lines 04 0 0 0\n"
      ++ codes "5 0 none -- 0 0 0\n6 0 none -- 0 0 0\n7 0 moved -- 0 0 0\n8 0 moved -- 0 0 0\n"
      ++ codes "9 0 cmd 18 0 0 0\n10 0 heard 18 0 0 0\n11 0 moved -- 0 0 0\n12 0 ended 18 0 0 0\n"
      ++ codes "13 0 moved -- 0 0 0\n14 0 none -- 0 0 0\n15 0 moved -- 0 0 0\n16 0 moved -- 0 0 0\n"
      ++ codes "17 0 cmd 45 0 0 0\n18 0 heard 45 0 0 0\n19 0 moved -- 0 0 0\n20 0 ended 45 0 0 0\n"
      ++ codes "21 0 moved -- 0 0 0\n22 0 none -- 0 0 0\n23 0 none -- 0 0 0\n24 0 moved -- 0 0 0\n"
      ++ codes "25 0 moved -- 0 0 0\n26 0 stat 41 0 0 0\n27 0 took 41 0 0 0\n28 0 moved -- 0 0 0\n"
      ++ codes "29 0 ended 41 0 0 0\n30 0 read 41 0 0 0\n31 0 moved -- 0 0 0\n32 0 none -- 0 0 0\n"
      ++ codes "33 0 lines b0 0 0 0\n34 0 none -- 0 0 0\n35 0 moved -- 0 0 0\n36 0 moved -- 0 0 0\n"
      ++ codes "37 0 stat 01 0 0 0\n"
