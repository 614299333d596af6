-- Which names clash: the laws that addressing needs.
-- Assumes nothing.
use mathlib.Core.Path.{◌≡◌, refl, sym, ◌∙◌}
use mathlib.Core.Bool.{Bool, true, false}
use lib.Dec.{eqb}
use borrow.Author.Tests.{eqb-true, eq-eqb}
use Rattle.message.specs.declared.SecondaryAddress.{SecondaryAddress}
use Rattle.std.specs.Prelude.{Option, Some, None}
use Rattle.names.specs.declared.Name.{Name}
use Rattle.names.specs.Names.{meets, clashes, is_given}
use Rattle.names.proofs.Logic.{no, both}

abbrev pub is_extended : Option SecondaryAddress → Bool
is_extended None = false
is_extended (Some s) = true

-- names
pub meets_extended : (x y : Option SecondaryAddress) → meets x y ≡ false
    → (is_extended x ≡ true) × (is_extended y ≡ true)
meets_extended (Some s) (Some t) e = (refl, refl)
meets_extended x y e = no (cc)

pub given_meets : (s : SecondaryAddress) (x y : Option SecondaryAddress) → is_given s x ≡ true → is_given s y ≡ true
    → meets x y ≡ true
given_meets s (Some t) (Some v) e f = eq-eqb t.0 v.0 (sym (eqb-true s.0 t.0 e) ∙ eqb-true s.0 v.0 f)
given_meets s x y e f = no (cc)

pub same_clash : (x y : Name) → x.address.0 ≡ y.address.0 → meets x.secondary y.secondary ≡ true
    → clashes x y ≡ true
same_clash x y e m = rw (eq-eqb x.address.0 y.address.0 e, m)

-- clashing goes both ways
meets_sym : (x y : Option SecondaryAddress) → meets x y ≡ true → meets y x ≡ true
meets_sym None None e = refl
meets_sym None (Some t) e = refl
meets_sym (Some s) None e = refl
meets_sym (Some s) (Some t) e = eq-eqb t.0 s.0 (sym (eqb-true s.0 t.0 e))

pub clash_sym : (x y : Name) → clashes x y ≡ true → clashes y x ≡ true
clash_sym x y e = let z = both (eqb x.address.0 y.address.0) (meets x.secondary y.secondary) e in
    same_clash y x (sym (eqb-true x.address.0 y.address.0 z.0))
    (meets_sym x.secondary y.secondary z.1)
