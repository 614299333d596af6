-- What the own primary and a secondary do: the laws of each part of hearing, by its cases.
-- Assumes nothing.
use mathlib.Core.Path.{◌≡◌, refl}
use mathlib.Core.Bool.{Bool, true, false}
use mathlib.Core.Logic.{◌⊎◌, inl, inr}
use Rattle.std.specs.Prelude.{Option, Some, None}
use Rattle.role.specs.Types.{SecondaryAddress, Mark, TalkPrimary, ListenPrimary, Role}
use Rattle.names.proofs.Clashes.{is_extended}
use Rattle.role.specs.Roles.{with_flags, mark_set, listen_addressed, talk_addressed, seconded, without_address}
use Rattle.role.specs.Roles.{configured_by}
use Rattle.role.proofs.Logic.{no}

abbrev pub talk_primary : Mark → Bool
talk_primary TalkPrimary = true
talk_primary m = false

-- what holds of each way that the flags can go
pub listen_elim : (P : Role → Type 0) (x : Option SecondaryAddress) (mine : Bool) (r : Role)
    → P (with_flags false true r) → P r
    → P (listen_addressed x mine r)
listen_elim P None true r f g = f
listen_elim P x mine r f g = g

pub talk_elim : (P : Role → Type 0) (x : Option SecondaryAddress) (mine : Bool) (r : Role) → P (with_flags true false r)
    → P (with_flags false r.listen r) → P r → P (talk_addressed x mine r)
talk_elim P None true r f g h = f
talk_elim P None false r f g h = g
talk_elim P (Some s) true r f g h = h
talk_elim P (Some s) false r f g h = g

pub second_elim : (P : Role → Type 0) (m : Mark) (mine : Bool) (r : Role) → P (with_flags true false r)
    → P (with_flags false r.listen r) → P (with_flags false true r) → P r → P (seconded m mine r)
second_elim P TalkPrimary true r f g h k = f
second_elim P TalkPrimary false r f g h k = g
second_elim P ListenPrimary true r f g h k = h
second_elim P m mine r f g h k = k

-- who had no more talk before has no more after
pub listen_weak : (x : Option SecondaryAddress) (mine t l : Bool) (r : Role) → (t ≡ true → r.talk ≡ true)
    → (listen_addressed x mine (with_flags t l r)).talk ≡ true → (listen_addressed x mine r).talk ≡ true
listen_weak None true t l r h e = e
listen_weak x mine t l r h e = h e

pub talk_weak : (x : Option SecondaryAddress) (mine t l : Bool) (r : Role) → (t ≡ true → r.talk ≡ true)
    → (talk_addressed x mine (with_flags t l r)).talk ≡ true → (talk_addressed x mine r).talk ≡ true
talk_weak None true t l r h e = e
talk_weak (Some s) true t l r h e = h e
talk_weak None false t l r h e = e
talk_weak (Some s) false t l r h e = e

pub second_weak : (m : Mark) (mine t l : Bool) (r : Role) → (t ≡ true → r.talk ≡ true)
    → (seconded m mine (with_flags t l r)).talk ≡ true → (seconded m mine r).talk ≡ true
second_weak TalkPrimary true t l r h e = e
second_weak TalkPrimary false t l r h e = e
second_weak ListenPrimary true t l r h e = e
second_weak m mine t l r h e = h e

-- a listen address sets no talk mark, and turns no talk on
pub listen_unmarked : (x : Option SecondaryAddress) (mine : Bool) → talk_primary (mark_set x mine ListenPrimary) ≡ false
listen_unmarked None mine = refl
listen_unmarked (Some s) true = refl
listen_unmarked (Some s) false = refl

pub listen_talk : (x : Option SecondaryAddress) (mine : Bool) (r : Role) → (listen_addressed x mine r).talk ≡ true
    → r.talk ≡ true
listen_talk None true r e = no (cc)
listen_talk x mine r e = e

-- who talks after a talk address has that primary, and talked before if a secondary has to follow; who is marked then
-- has it too
pub talk_talk : (x : Option SecondaryAddress) (mine : Bool) (r : Role) → (talk_addressed x mine r).talk ≡ true
    → (mine ≡ true) × (is_extended x ≡ true → r.talk ≡ true)
talk_talk None true r e = (refl, λ f. no (cc))
talk_talk None false r e = no (cc)
talk_talk (Some s) true r e = (refl, λ f. e)
talk_talk (Some s) false r e = no (cc)

pub talk_mark : (x : Option SecondaryAddress) (mine : Bool) → talk_primary (mark_set x mine TalkPrimary) ≡ true
    → mine ≡ true
talk_mark (Some s) true e = refl
talk_mark x mine e = no (cc)

pub talk_sets : (x : Option SecondaryAddress) (mine : Bool) → mine ≡ true → is_extended x ≡ true
    → talk_primary (mark_set x mine TalkPrimary) ≡ true
talk_sets None mine e f = no (cc)
talk_sets (Some s) mine e f = rw e

-- who talks after a secondary waited for it, or waited for none and talked
pub second_talk : (m : Mark) (mine : Bool) (r : Role) → (seconded m mine r).talk ≡ true
    → ((talk_primary m ≡ true) × (mine ≡ true)) ⊎ ((talk_primary m ≡ false) × (r.talk ≡ true))
second_talk TalkPrimary true r e = inl (refl, refl)
second_talk TalkPrimary false r e = no (cc)
second_talk ListenPrimary true r e = no (cc)
second_talk m mine r e = inr (refl, e)

-- who configures waits for no talk secondary, and attention leaves nobody who does
pub without_unmarked : (m : Mark) → talk_primary (without_address m) ≡ false
without_unmarked TalkPrimary = refl
without_unmarked m = refl

pub configured_unmarked : (listen : Bool) (m : Mark) → talk_primary (configured_by listen m) ≡ false
configured_unmarked true m = refl
configured_unmarked false m = without_unmarked m
