-- What holds of every bus that an accepted build and any calls lead to. Later work cites these, and not the invariant.
-- Assumes nothing.
use mathlib.Core.Path.{◌≡◌, refl, sym, ap, ◌∙◌}
use mathlib.Core.Bool.{Bool, true, false}
use mathlib.Core.List.{List}
use Prim.Native.Nat.{ℕ}
use borrow.Author.Tests.{eq-eqb}
use Rattle.party.specs.Sending.{is_source, is_polled}
use Rattle.party.specs.Settling.{settled}
use Rattle.role.proofs.Logic.{no, test, cond-elim}
use Rattle.party.proofs.Settled.{settled_source}
use Rattle.bus.specs.Types.{Place, Name, Party, Sids, Strs, Aids, Acrs, Kind, Status, Bus}
use Rattle.bus.specs.Types.{Answer, Call, After, Effect}
use Rattle.bus.specs.Types.after
use Rattle.effect.specs.Calls.{is_accepted, place_of}
use Rattle.accepted.specs.Accepted.{effect_of}
use Rattle.bus.specs.Record.{here, lines, built, build_extended}
use Rattle.bus.specs.Settling.{followed}
use Rattle.addresses.specs.Addresses.{bad_build}
use Rattle.bus.specs.Machine as m
use Rattle.bus.proofs.Invariant.{sent_by, of_status, of_data, stands_of, Inv, atn_of, quiet}
use Rattle.bus.proofs.Putting.{source_unique}
use Rattle.bus.proofs.Built.{built_inv}
use Rattle.bus.proofs.EachCall.{run_inv}
use Rattle.std.specs.Prelude.{Some, Ok, is_some}
use Rattle.effect.specs.Stands.{sent}

-- a refused call leaves the bus, whatever bus it is
pub refused_leaves : (b : Bus) (c : Call) → is_accepted (m.call b c).verdict ≡ false → (m.call b c).bus ≡ b
refused_leaves b c =
    let l = lines b in
    let e = effect_of (m.view_at (place_of c) l b) c in
    cond-elim (λ (a : Answer). is_accepted a.verdict ≡ false → a.bus ≡ b) (is_accepted (m.verdict l b c))
    (λ _. followed_accepted e.after e)
    (λ _ _. refl)
  where
    followed_accepted : (x : After) (e : Effect) → let a = followed x (lines b).atn b (place_of c).0 e in
        is_accepted a.verdict ≡ false → a.bus ≡ b
    followed_accepted after.Settle e h = no (cc)
    followed_accepted x e h = no (cc)

-- the bus keeps the invariant
pub reached : (xs : List Name) (s : Place) → (build_extended xs s).verdict ≡ Ok tt → (cs : List Call)
    → Inv (m.run (build_extended xs s).bus cs)
reached xs s ok cs = cond-elim (λ (a : Answer). a.verdict ≡ Ok tt → Inv (m.run a.bus cs)) (bad_build xs s)
    (λ _ r. no (cc))
    (λ e _. run_inv (built xs s) (built_inv xs s e) cs)
    ok

status_kind : (k : Kind) → of_status k ≡ true → k ≡ Status
status_kind Status e = refl
status_kind k e = no (cc)

module _ (b : Bus) (I : Inv b) where
  -- a source is never in SIDS, and any other party is
  pub source_not_sids : (j : ℕ) → is_source (atn_of b) (here b j) ≡ true → (here b j).source ≡ Sids → ⊥
  source_not_sids j h e = settled_source (atn_of b) (here b j) h (ap (λ (p : Party). p.source) (I.still j) ∙ e)

  pub other_in_sids : (j : ℕ) → is_source (atn_of b) (here b j) ≡ false → (here b j).source ≡ Sids
  other_in_sids = quiet b I

  -- every party is a fixed point of settling
  pub settled_already : (j : ℕ) → settled (atn_of b) (here b j) ≡ here b j
  settled_already = I.still

  -- two parties are never sources at once
  pub one_source_lem : (i j : ℕ) → is_source (atn_of b) (here b i) ≡ true → is_source (atn_of b) (here b j) ≡ true
      → i ≡ j
  one_source_lem = source_unique b.count (atn_of b) (here b) b.standing I.pre

  -- a listener takes part in the handshake where ATN is false, and nobody else does
  pub listener_takes_part : atn_of b ≡ false → (j : ℕ) → (here b j).role.listen ≡ true → (here b j).acceptor ≡ Aids → ⊥
  listener_takes_part = I.pre.joins

  pub other_takes_no_part : atn_of b ≡ false → (j : ℕ) → (here b j).role.listen ≡ false → (here b j).acceptor ≡ Aids
  other_takes_no_part = I.pre.listens

  -- talk and listen are never both on
  pub never_both : (j : ℕ) → (here b j).role.talk ≡ true → (here b j).role.listen ≡ true → ⊥
  never_both = I.pre.apart

  -- a ready acceptor of data has its data-in empty
  pub ready_has_room : atn_of b ≡ false → (j : ℕ) → (here b j).acceptor ≡ Acrs → is_some (here b j).input ≡ false
  ready_has_room = I.pre.empty

  module _ (s : Place) (k : Kind) (v : ℕ) (e : Bool) (st : b.standing ≡ Some (sent s k v e)) where
    its_sender : sent_by s.0 b.standing ≡ true
    its_sender = rw st (eq-eqb s.0 s.0 refl)

    -- the sender of a standing byte is in STRS, and a source
    pub sender_in_strs : (here b s.0).source ≡ Strs
    sender_in_strs = I.pre.sent s.0 its_sender

    pub sender_is_source : is_source (atn_of b) (here b s.0) ≡ true
    sender_is_source = test (is_source (atn_of b) (here b s.0)) (λ h. h)
        (λ h. let z = quiet b I s.0 h in let y = sender_in_strs in no (cc))

    -- a status byte stands exactly where its sender is polled
    pub status_if_polled_lem : is_polled (atn_of b) (here b s.0) ≡ true → k ≡ Status
    status_if_polled_lem h = status_kind k (sym (ap (stands_of of_status) st) ∙ I.pre.polled s.0 its_sender h)

    pub polled_if_status_lem : k ≡ Status → is_polled (atn_of b) (here b s.0) ≡ true
    polled_if_status_lem h = I.pre.polls s.0 its_sender (ap (stands_of of_status) st ∙ ap of_status h) sender_is_source

    -- END comes with data alone
    pub end_on_data_lem : e ≡ true → of_data k ≡ true
    end_on_data_lem h = sym (ap (stands_of of_data) st) ∙ I.pre.plain (rw st h)
