-- The addresses of a build (document 01, "The bus record" and the refusal BADBUILD; document 02, Q-3).
-- Assumes nothing.
use Rattle.std.specs.Prelude.{ℕ, zero, suc, Bool, false, not, cond, ◌||◌, List, [], ◌∷◌, ltb, eqb, length}
use Rattle.std.specs.Prelude.{Option, Some, None}
use Rattle.message.specs.Meaning.{address, secondary}
use Rattle.message.specs.declared.SecondaryAddress.{SecondaryAddress}
use Rattle.names.specs.declared.Name.{Name}
use Rattle.names.specs.Names.{plain, is_over30, clashes}
use Rattle.party.specs.declared.Place.{Place}
use Rattle.party.specs.declared.Party.{Party}
use Rattle.party.specs.Parts.{idle, built_party}

-- A secondary as a host gives it: 255 says that there is none.
abbrev pub secondary_given : ℕ → Option SecondaryAddress
secondary_given s = cond (eqb s 255) None (Some (secondary s))

-- The names that a list of addresses and one of secondaries give; where the second is empty nobody has a secondary.
abbrev pub names : List ℕ → List ℕ → List Name
names [] ss = []
names (a ∷ xs) [] = plain (address a) ∷ names xs []
names (a ∷ xs) (s ∷ ss) = record { address = address a; secondary = secondary_given s } ∷ names xs ss

-- A list of secondaries is empty, or as long as the addresses (docs/DECISIONS.md).
unfoldable pub go_together : List ℕ → List ℕ → Bool
go_together xs ss = eqb (length ss) 0 || eqb (length ss) (length xs)

-- The names that the two lists of a build give. Lists that do not go together name nobody: they make no bus.
abbrev pub names_of : List ℕ → List ℕ → List Name
names_of xs ss = cond (go_together xs ss) (names xs ss) []

-- The parties at n places: one for each name, then the idle party. "places without a party hold it"
abbrev pub placed : ℕ → List Name → List Party
placed zero xs = []
placed (suc n) [] = idle ∷ placed n []
placed (suc n) (x ∷ xs) = built_party x ∷ placed n xs

abbrev pub any_over30 : List Name → Bool
any_over30 [] = false
any_over30 (x ∷ xs) = is_over30 x || any_over30 xs

abbrev pub clashes_with : Name → List Name → Bool
clashes_with n [] = false
clashes_with n (x ∷ xs) = clashes n x || clashes_with n xs

abbrev pub two_clash : List Name → Bool
two_clash [] = false
two_clash (x ∷ xs) = clashes_with x xs || two_clash xs

-- "BADBUILD: 0 or over 15 parties, address over 30, two equal, no such system party". Document 02, Q-3: "Two parties
-- may share a primary only if both have secondaries and these differ; otherwise, or with a secondary over 30,
-- BADBUILD."
abbrev pub bad_build : List Name → Place → Bool
bad_build xs s = eqb (length xs) 0 || ltb 15 (length xs) || any_over30 xs || two_clash xs || not (ltb s.0 (length xs))
