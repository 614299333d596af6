-- What attention and settling leave of one party.
-- Assumes nothing.
use mathlib.Core.Path.{◌≡◌, refl}
use mathlib.Core.Bool.{Bool, true, false, not, cond, ◌&&◌, ◌||◌}
use mathlib.Core.Logic.{◌⊎◌, inl, inr}
use Prim.Native.Nat.{ℕ}
use Rattle.party.specs.Types.{Name, Party, Source, Sids, Sgns, Sdys, Strs, Service, Nprs, Srqs, Aprs}
use Rattle.party.specs.Parts.{built_party}
use Rattle.party.specs.Driving.{is_active}
use Rattle.party.specs.Sending.{is_source, is_polled}
use Rattle.party.specs.Settling.{attended, source_settled, settled}
use Rattle.service.specs.Service.{service_settled, asks, live_settled}
use Rattle.role.proofs.Logic.{no}
use Rattle.role.proofs.Cases.{without_unmarked}
use Rattle.role.proofs.Roles.{marked}

pub newborn_still : (atn : Bool) (n : Name) → settled atn (built_party n) ≡ built_party n
newborn_still true n = refl
newborn_still false n = refl

-- after attention nobody waits for a secondary
pub attended_unmarked : (t : Bool) (p : Party) → marked (attended t p).role ≡ false
attended_unmarked t p = without_unmarked p.role.mark

-- settling leaves in STRS just the sources that were there
pub settled_strs : (t : Bool) (p : Party) → (settled t p).source ≡ Strs → (p.source ≡ Strs) × (is_source t p ≡ true)
settled_strs t p = go (is_source t p) p.source
  where
    go : (x : Bool) (s : Source) → source_settled x s ≡ Strs → (s ≡ Strs) × (x ≡ true)
    go true Sids e = no (cc)
    go true Sgns e = no (cc)
    go true Sdys e = no (cc)
    go true Strs e = (refl, refl)
    go false s e = no (cc)

pub settled_keeps : (t : Bool) (p : Party) → p.source ≡ Strs → is_source t p ≡ true → (settled t p).source ≡ Strs
settled_keeps t p e h = rw (h, e)

-- a source that has settled is not in SIDS, and any other party is
pub settled_source : (t : Bool) (p : Party) → is_source t p ≡ true → (settled t p).source ≡ Sids → ⊥
settled_source t p h = go (is_source t p) p.source h
  where
    go : (x : Bool) (s : Source) → x ≡ true → source_settled x s ≡ Sids → ⊥
    go true Sids h e = no (cc)
    go true Sgns h e = no (cc)
    go true Sdys h e = no (cc)
    go true Strs h e = no (cc)
    go false s h e = no (cc)

pub settled_other : (t : Bool) (p : Party) → is_source t p ≡ false → (settled t p).source ≡ Sids
settled_other t p h = rw h

-- settling twice is settling once
pub settled_twice : (t : Bool) (p : Party) → settled t (settled t p) ≡ settled t p
settled_twice t p = rw (
  src (is_source t p) p.source,
  live (is_polled t p) p.request.live p.request.saved,
  serve p.request.service (asks (live_settled (is_polled t p) p.request) p.request.rsv2) (is_polled t p),
) refl
  where
    src : (x : Bool) (s : Source) → source_settled x (source_settled x s) ≡ source_settled x s
    src true Sids = refl
    src true Sgns = refl
    src true Sdys = refl
    src true Strs = refl
    src false s = refl

    live : (x : Bool) (a b : ℕ) → cond x (cond x a b) b ≡ cond x a b
    live true a b = refl
    live false a b = refl

    serve : (s : Service) (r x : Bool) → service_settled (service_settled s r x) r x ≡ service_settled s r x
    serve Nprs true true = refl
    serve Nprs true false = refl
    serve Nprs false x = refl
    serve Srqs true true = refl
    serve Srqs true false = refl
    serve Srqs false true = refl
    serve Srqs false false = refl
    serve Aprs true x = refl
    serve Aprs false true = refl
    serve Aprs false false = refl

-- who is a source
pub source_of_active : (t : Bool) (p : Party) → is_active p ≡ true → is_source t p ≡ true
source_of_active t p e = rw e

pub source_case : (t : Bool) (p : Party) → is_source t p ≡ true
    → (is_active p ≡ true) ⊎ ((t ≡ false) × (p.role.talk ≡ true))
source_case t p = go (is_active p) t p.role.talk
  where
    go : (x t y : Bool) → (x || (not t && y)) ≡ true → (x ≡ true) ⊎ ((t ≡ false) × (y ≡ true))
    go true t y e = inl refl
    go false true y e = no (cc)
    go false false y e = inr (refl, e)
