-- The premises of the condition hold of an example: each call of the list is looked at.
-- Assumes nothing.
use mathlib.Core.Path.{◌≡◌, refl, ap}
use mathlib.Core.Bool.{Bool, true, false, not, ◌&&◌, ◌||◌}
use mathlib.Core.Logic.{◌⊎◌, inl, inr}
use Prim.Native.Nat.{ℕ}
use native.Mathlib.Omega.{arith}
use lib.Dec.{eqb}
use Rattle.message.specs.Meaning.{meaning_of, seven_bits, named}
use Rattle.service.specs.Service.{rsv}
use Rattle.role.proofs.Logic.{no}
use Rattle.effect.specs.Calls.{act_number}
use Rattle.bus.specs.Types.{Call}
use Rattle.bus.specs.Types.call_of
use Rattle.bus.specs.Types.act_of
use Rattle.bus.specs.Delivery.{moment, answer_at}
use Rattle.bus.proofs.Looking.{holds, of_false}
use Rattle.request_laws.specs.Requests.{request_at, polled, Poll, AsksAt, Left, NoneBetween}
use Rattle.request_laws.specs.Examples.{bus, calls, Speaks}
use Rattle.request_laws.proofs.Asked.{is_stat}

-- a call that switches the bit of party 1 or resets it
abbrev touches : Call → Bool
touches (call_of.Of p a) = (eqb (act_number a) 10 || eqb (act_number a) 13) && eqb p.0 1
touches call_of.Lines = false
touches call_of.Drivers = false

asks : AsksAt bus calls 1 1
unfolding meaning_of seven_bits named
asks = record { there = omega arith; call = refl; accepted = refl; nprs = refl; outside = refl }

poll : Poll bus calls 1 19 36
unfolding meaning_of seven_bits named
poll = record {
  order = (omega arith, omega arith);
  unbroken = λ j l m. holds 19 18 (polled bus calls 1) refl j l (omega arith);
  before = λ j e. let h : j ≡ 18 = omega arith in rw h refl;
  after = λ _. refl;
}

none : NoneBetween bus calls 1 1 19
unfolding meaning_of seven_bits named
none j l m t = of_false (is_stat (answer_at bus calls j).event)
    (holds 2 17 (λ j. not (is_stat (answer_at bus calls j).event)) refl j l m) (ap is_stat t.2)

left : Left bus calls 1 1 49
unfolding meaning_of seven_bits named
left = record {
  untouched = λ k l m t. of_false (touches (moment bus calls k).call)
      (holds 2 47 (λ j. not (touches (moment bus calls j).call)) refl k l m) (touched k t.1);
  clear = λ k l m. clear_bit (rsv (request_at bus calls 1 k).live)
      (holds 2 48 (λ j. not (rsv (request_at bus calls 1 j).live)) refl k l (omega arith));
}
  where
    touched : (k : ℕ) → ((on : ℕ) × ((moment bus calls k).call ≡ call_of.Of (record { 0 = 1 })
        (act_of.SecondRequest on))) ⊎ ((moment bus calls k).call ≡ call_of.Of (record { 0 = 1 }) act_of.Reset)
        → touches (moment bus calls k).call ≡ true
    touched k (inl e) = ap touches e.1
    touched k (inr e) = ap touches e

    clear_bit : (x : Bool) → not x ≡ true → x ≡ false
    clear_bit true h = no (cc)
    clear_bit false h = refl

pub speaks : Speaks
unfolding meaning_of seven_bits named
speaks = record {
  first = record {
    asks = asks;
    poll = poll;
    after = omega arith;
    none = none;
    puts = (omega arith, refl, refl);
    within = (omega arith, omega arith);
  };
  second = record {
    asks = asks;
    poll = poll;
    after = omega arith;
    none = none;
    puts = (omega arith, refl, refl);
    within = (omega arith, omega arith);
  };
  later = (omega arith, refl, refl);
  last = (omega arith, refl, refl);
  left = left;
}
