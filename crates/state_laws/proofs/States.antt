-- Every bus there is keeps the invariant, and the invariant has these sentences.
-- Assumes nothing.
use mathlib.Core.Path.{◌≡◌, refl, sym, ap}
use mathlib.Core.Bool.{Bool, true, false, ◌||◌}
use Prim.Native.Nat.{ℕ}
use Rattle.std.specs.Prelude.{Option, Some, None, is_some}
use borrow.Author.Tests.{eqb-true, ne_eqb}
use Rattle.role.proofs.Logic.{no, test}
use Rattle.party.specs.Driving.{is_active, dav_at, drives_dav}
use Rattle.party.specs.Sending.{is_source}
use Rattle.parties.specs.Places.{place}
use Rattle.parties.proofs.Places.{some_seen, some_true}
use Rattle.effect.specs.Stands.{stands, sent}
use Rattle.bus.specs.declared.Bus.{Bus}
use Rattle.bus.specs.Types.{Place, Party, Byte, Kind, Command, Data, Status, Standing}
use Rattle.bus.specs.Record.{here, lines}
use Rattle.bus.proofs.Invariant.{Inv, atn_of, sent_by, of_data, in_acrs, is_acrs, is_strs, look}
use Rattle.bus.proofs.Summary.{none_ready}
use Rattle.bus.proofs.Reached.{sender_in_strs, sender_is_source, status_if_polled_lem, polled_if_status_lem}
use Rattle.bus.proofs.Reached.{end_on_data_lem}
use Rattle.bus.proofs.Reached.{source_not_sids, other_in_sids, one_source_lem, never_both, settled_already}
use Rattle.bus.proofs.Reached.{listener_takes_part, other_takes_no_part, ready_has_room}
use Rattle.runner.proofs.Led.{led_inv}
use Rattle.state_laws.specs.States.{States, EveryState}

-- who has talk on with ATN false is a source
talks_source : (t : Bool) (p : Party) → t ≡ false → p.role.talk ≡ true → is_source t p ≡ true
talks_source t p e f = rw (e, f) (or_true (is_active p))
  where
    or_true : (x : Bool) → (x || true) ≡ true
    or_true true = refl
    or_true false = refl

data_kind : (k : Kind) → of_data k ≡ true → k ≡ Data
data_kind Command e = no (cc)
data_kind Data e = refl
data_kind Status e = no (cc)

is_empty : (s : Option Byte) → is_some s ≡ false → s ≡ None
is_empty None e = refl
is_empty (Some y) e = no (cc)

module _ (b : Bus) (I : Inv b) where
  sent_byte : (st : Option Standing) (j : ℕ) → sent_by j st ≡ true
      → (k : Kind) × (v : ℕ) × (e : Bool) × (st ≡ Some (sent (place j) k v e))
  sent_byte None j h = no (cc)
  sent_byte (Some st) j h = (
    st.kind,
    st.value,
    st.end,
    ap (λ (n : ℕ). Some (sent (place n) st.kind st.value st.end)) (sym (eqb-true j st.sender.0 h)),
  )

  dav : (st : Option Standing) → b.standing ≡ st → (lines b).dav ≡ stands st
  dav None e = test (lines b).dav
      (λ h. let f = some_true b.count drives_dav b.parties h in
      let s = I.pre.sends f.0 (is_strs (here b f.0).source f.1) in no (cc))
      (λ h. h)
  dav (Some st) e = some_seen b.count drives_dav b.parties refl I.pre.tail st.sender.0
      (ap dav_at (sender_in_strs b I st.sender st.kind st.value st.end e))

  -- who has heard what stands, and is not its sender, is as it looks
  looks : (p : Place) (v : ℕ) (e : Bool) → b.standing ≡ Some (sent p Command v e) → (lines b).ndac ≡ false → (j : ℕ)
      → (j ≡ p.0 → ⊥) → (here b j).role.talk ≡ true → (look b.standing j (here b j)).talk ≡ true
  looks p v e st nd j ne h = rw (st, ne_eqb j p.0 ne, unready) h
    where
      unready : in_acrs (here b j).acceptor ≡ false
      unready = test (in_acrs (here b j).acceptor)
          (λ q. absurd (none_ready b I nd j (is_acrs (here b j).acceptor q))) (λ q. q)

  pub states : States b
  states = record {
    sender = sender_in_strs b I;
    sender_source = sender_is_source b I;
    status_if_polled = status_if_polled_lem b I;
    polled_if_status = λ p v e st. polled_if_status_lem b I p Status v e st refl;
    end_on_data = λ p k v st. data_kind k (end_on_data_lem b I p k v true st refl);
    strs = λ j e. sent_byte b.standing j (I.pre.sends j e);
    dav = dav b.standing refl;
    no_party = I.pre.tail;
    not_in_sids = source_not_sids b I;
    in_sids = other_in_sids b I;
    one_source = one_source_lem b I;
    listeners = listener_takes_part b I;
    others = other_takes_no_part b I;
    room = λ t j e. is_empty (here b j).input (ready_has_room b I t j e);
    one_talker = λ e i j f g. one_source_lem b I i j (talks_source (atn_of b) (here b i) e f)
        (talks_source (atn_of b) (here b j) e g);
    one_other = λ p v e st nd i j ni nj f g. I.pre.heard.one i j (looks p v e st nd i ni f)
        (looks p v e st nd j nj g);
    not_both = never_both b I;
    settles = settled_already b I;
  }

pub every_state : EveryState
every_state b led = states b (led_inv b led)
