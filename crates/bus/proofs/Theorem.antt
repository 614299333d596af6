-- Demand 3.
-- Assumes nothing.
use mathlib.Core.Path.{◌≡◌, refl, ap, ◌∙◌}
use mathlib.Core.Bool.{true}
use mathlib.Core.List.{List}
use Prim.Native.Nat.{ℕ, suc, ◌<◌}
use native.Mathlib.Omega.{arith}
use lib.ListN.{length, take}
use Rattle.party.specs.Parts.{one}
use Rattle.role.proofs.Logic.{no, cond-elim}
use Rattle.bus.specs.Types.{Party, Active, Strs, Standing, Bus, Answer, Call}
use Rattle.bus.specs.Types.call_of
use Rattle.bus.specs.Record.{here, accept, built}
use Rattle.addresses.specs.Addresses.{bad_build}
use Rattle.effect.specs.Stands.{stands}
use Rattle.bus.specs.Machine as m
use Rattle.bus.specs.Delivery.{Moment, Delivered, Delivery, moment, bus_at, answer_at, held}
use Rattle.bus.proofs.Invariant.{one_sender, busy, Inv}
use Rattle.bus.proofs.Built.{built_inv, built_held}
use Rattle.bus.proofs.Summary.{Good}
use Rattle.bus.proofs.EachCall.{all_good, linked, first, run_inv, put_total, byte_total}
use Rattle.bus.proofs.Ledger as ledger
use Rattle.std.specs.Prelude.{Option, None, Ok}

in_charge : (p : Party) → p.control ≡ Active → busy p.control ≡ true
in_charge p e = rw e

-- one driver of DAV, and one of ATN
pub one_dav_lem : (b : Bus) → Inv b → (p q : ℕ) → (here b p).source ≡ Strs → (here b q).source ≡ Strs → p ≡ q
one_dav_lem b I p q e f = one_sender b.standing p q (I.pre.sends p e) (I.pre.sends q f)

pub one_atn_lem : (b : Bus) → Inv b → (p q : ℕ) → (here b p).control ≡ Active → (here b q).control ≡ Active → p ≡ q
one_atn_lem b I p q e f = I.pre.charge p q (in_charge (here b p) e) (in_charge (here b q) f)

-- From any bus that keeps the invariant, where nothing stands and nothing is held.
module _ (b : Bus) (I : Inv b) (n : b.standing ≡ None) (h : held b ≡ 0) (cs : List Call) where
  past : Moment
  past = record { before = b; call = call_of.Lines; answer = accept b }

  goods : (k : ℕ) → k < length cs → Good (bus_at b cs k) (moment b cs k).call (answer_at b cs k)
  unfolding past
  goods = all_good b I cs past

  links : (k : ℕ) → suc k < length cs → bus_at b cs (suc k) ≡ (answer_at b cs k).bus
  unfolding past
  links = linked b cs past

  begins : (bus_at b cs 0).standing ≡ None
  unfolding past
  begins = ap (λ (x : Bus). x.standing) (first b cs past refl) ∙ n

  pub delivered_from : Delivered b cs
  delivered_from = record {
    one_dav = λ k. one_dav_lem (m.run b (take k cs)) (run_inv b I (take k cs));
    one_atn = λ k. one_atn_lem (m.run b (take k cs)) (run_inv b I (take k cs));
    taken = ledger.taken b cs goods links begins;
    silent = ledger.silent b cs goods links begins;
    once = ledger.once b cs goods links begins;
    everyone = ledger.everyone b cs goods links begins;
    ordered = ledger.ordered b cs goods links begins;
    puts = let x = put_total b I cs in let z = ap (λ (st : Option Standing). one (stands st)) n in omega arith;
    bytes = let x = byte_total b I cs in omega arith;
  }

-- For every accepted build and every list of calls.
pub delivery : Delivery
delivery xs s ok cs = cond-elim (λ (a : Answer). a.verdict ≡ Ok tt → Delivered a.bus cs) (bad_build xs s)
    (λ _ r. no (cc))
    (λ e _. delivered_from (built xs s) (built_inv xs s e) refl (built_held xs s e) cs)
    ok
