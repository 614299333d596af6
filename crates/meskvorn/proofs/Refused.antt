-- What is refused leaves the bus, whether it is asked for by numbers or as a run of turns.
-- Assumes nothing.
use mathlib.Core.Path.{◌≡◌, refl}
use mathlib.Core.Bool.{Bool, true, false, cond}
use Prim.Native.Nat.{ℕ}
use lib.Dec.{eqb}
use Rattle.role.proofs.Logic.{no, test, cond-elim}
use Rattle.effect.specs.Calls.{is_accepted}
use Rattle.std.specs.Prelude.{Result, Ok, Err}
use Rattle.effect.specs.declared.Refusal.{Refusal}
use Rattle.reader.specs.declared.Record.{Record}
use Rattle.reader.specs.Record.{record_of}
use Rattle.bus.specs.declared.Bus.{Bus}
use Rattle.bus.specs.declared.Answer.{Answer}
use Rattle.bus.proofs.Reached.{refused_leaves}
use Rattle.runner.specs.Waiting.{TieOrder}
use Rattle.runner.specs.Runner.{give_turns}
use Rattle.orders.specs.declared.Order.{Order}
use Rattle.orders.specs.declared.Order.TheVariants as order
use Rattle.orders.specs.Orders.{order_of, obey, answer_to_order, answer_to_record}
use Rattle.meskvorn.specs.Host.{answer_by_number}

abbrev Asked : Type 0
Asked = Result Order Refusal

abbrev is_build : Asked → Bool
is_build (Ok (order.Build system n first)) = true
is_build (Ok (order.Call c)) = false
is_build (Err e) = false

or : (x : Bool) (o p : Asked) → is_build o ≡ false → is_build p ≡ false → is_build (cond x o p) ≡ false
or true o p f g = f
or false o p f g = g

-- no number but 0 asks for a build
not_build : (r : Record) → eqb r.op 0 ≡ false → is_build (order_of r) ≡ false
unfolding order_of
not_build r h = rw h
    (or (eqb r.op 1) _ _ refl (or (eqb r.op 2) _ _ refl (or (eqb r.op 3) _ _ refl (or (eqb r.op 4) _ _ refl
    (or (eqb r.op 5) _ _ refl (or (eqb r.op 6) _ _ refl (or (eqb r.op 7) _ _ refl (or (eqb r.op 8) _ _ refl
    (or (eqb r.op 9) _ _ refl (or (eqb r.op 10) _ _ refl (or (eqb r.op 11) _ _ refl (or (eqb r.op 12) _ _ refl
    (or (eqb r.op 13) _ _ refl refl)))))))))))))

module _ (b : Bus) where
  -- where this answer is a refusal, its bus is b
  abbrev Leaves : Answer → Type 0
  Leaves a = is_accepted a.verdict ≡ false → a.bus ≡ b

  order_leaves : (o : Asked) → is_build o ≡ false → Leaves (answer_to_order b o)
  unfolding obey
  order_leaves (Ok (order.Build system n first)) e = no (cc)
  order_leaves (Ok (order.Call c)) e = refused_leaves b c
  order_leaves (Err e) f = λ _. refl

  pub answer_leaves : (op party value extra : ℕ) → Leaves (answer_by_number b op party value extra)
  unfolding answer_by_number answer_to_record
  answer_leaves op party value extra = cond-elim Leaves (eqb op 0) (λ _ _. refl)
      (λ h. order_leaves (order_of (record_of op party value extra)) (not_build (record_of op party value extra) h))

  pub turns_leave : (tie : TieOrder) (t : ℕ) → is_accepted (give_turns tie b t).verdict ≡ false
      → (give_turns tie b t).bus ≡ b
  turns_leave tie t = test (eqb b.count 0) (λ e _. rw e refl) (λ e h. no (refused e h))
    where
      refused : eqb b.count 0 ≡ false → is_accepted (give_turns tie b t).verdict ≡ false → ◌≡◌ {A = ℕ} 0 1
      refused e h = let z : is_accepted (give_turns tie b t).verdict ≡ true = rw e refl in cc
