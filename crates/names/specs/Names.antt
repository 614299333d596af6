-- Names: what a build fixes of a party (document 02, Q-3: "A party may be built with a secondary address 0..30, or
-- none").
-- Assumes nothing.
use Rattle.std.specs.Prelude.{Bool, true, false, ◌&&◌, ◌||◌, ltb, eqb, Option, Some, None}
use Rattle.message.specs.declared.Address.{Address}
use Rattle.message.specs.declared.SecondaryAddress.{SecondaryAddress}
use Rattle.names.specs.declared.Name.{Name}

-- A name without a secondary.
abbrev pub plain : Address → Name
plain a = record { address = a; secondary = None }

-- "address over 30"; "with a secondary over 30, BADBUILD"
abbrev pub secondary_is_over30 : Option SecondaryAddress → Bool
secondary_is_over30 None = false
secondary_is_over30 (Some s) = ltb 30 s.0

abbrev pub is_over30 : Name → Bool
is_over30 n = ltb 30 n.address.0 || secondary_is_over30 n.secondary

-- "Two parties may share a primary only if both have secondaries and these differ": two names that one bus may not
-- have.
abbrev pub meets : Option SecondaryAddress → Option SecondaryAddress → Bool
meets None t = true
meets (Some s) None = true
meets (Some s) (Some t) = eqb s.0 t.0

abbrev pub clashes : Name → Name → Bool
clashes n m = eqb n.address.0 m.address.0 && meets n.secondary m.secondary

-- Is this the secondary that was given?
abbrev pub is_given : SecondaryAddress → Option SecondaryAddress → Bool
is_given s None = false
is_given s (Some t) = eqb s.0 t.0
