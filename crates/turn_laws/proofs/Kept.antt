-- What a call leaves of names and latches, on any bus. Hearing, interface clear, attention and settling leave both; a
-- reset, feoi, a byte through data out and the own status change the latches of their own party.
-- Assumes nothing.
use mathlib.Core.Path.{◌≡◌, refl, sym, ap, ◌∙◌}
use mathlib.Core.Bool.{Bool, true, false, not, cond, ◌||◌}
use mathlib.Core.List.{List}
use Prim.Native.Nat.{ℕ}
use lib.Dec.{eqb}
use lib.ListN.{set}
use Rattle.std.specs.Prelude.{Option, Some, None, is_some}
use Rattle.message.specs.Meaning.{meaning_of}
use Rattle.role.proofs.Logic.{cond-elim}
use Rattle.role.specs.Roles.{role_heard}
use Rattle.role.proofs.Roles.{hear_name}
use Rattle.offer.specs.Offer.{kind_of}
use Rattle.party.specs.declared.Latches.{Latches}
use Rattle.party.specs.Driving.{is_active}
use Rattle.party.specs.Sending.{is_source, is_polled, offer}
use Rattle.party.specs.Settling.{attended, settled, change_control, cleared}
use Rattle.parties.specs.Places.{at, some, each}
use Rattle.parties.proofs.Places.{set_part, each_part}
use Rattle.effect.specs.Calls.{place_of, act_number, switch_of, is_on}
use Rattle.effect.specs.Stands.{of_command}
use Rattle.source_step.specs.SourceStep.{ready, ended, source_in}
use Rattle.acceptor_step.specs.AcceptorStep.{takes, acceptor_in}
use Rattle.accepted.specs.Accepted.{step, effect_of}
use Rattle.host_calls.specs.HostCalls.{read_out}
use Rattle.bus.specs.Record.{here, lines}
use Rattle.bus.specs.Settling.{followed}
use Rattle.bus.specs.Machine as m
use Rattle.bus.specs.declared.Bus.{Bus}
use Rattle.bus.specs.Types.{Place, Name, Party, Idle, Active, Source, Sgns, Sdys, Strs, Acceptor, Anrs}
use Rattle.bus.specs.Types.{Acrs, Awns, Byte, Kind, Standing, Call, After, Outcome, Effect, View}
use Rattle.bus.specs.Types.after
use Rattle.bus.specs.Types.call_of
use Rattle.bus.specs.Types.act_of

-- what no step changes, and nothing that follows on a call
abbrev steady : Party → Name × Latches
steady p = (p.role.name, p.latches)

hear_kept : (x : ℕ) (p : Party) → ◌≡◌ {A = Name × Latches}
    ((role_heard (meaning_of x) p.role).name, p.latches) (steady p)
hear_kept x p = ap (λ (n : Name). (n, p.latches)) (hear_name (meaning_of x) p.role)

-- A step leaves both of its party.
module _ (v : View) where
  abbrev Same : Effect → Type 0
  Same e = steady e.party ≡ steady v.party

  ready_same : (o : Option Byte) (k : Kind) → Same (ready o k v)
  ready_same None k = refl
  ready_same (Some y) k = cond-elim Same v.lines.nrfd (λ _. refl)
      (λ _. cond-elim Same v.lines.ndac (λ _. refl) (λ _. refl))

  ended_same : (st : Option Standing) → Same (ended st v)
  ended_same None = refl
  ended_same (Some st) = cond-elim (λ (q : Party). steady q ≡ steady v.party) (of_command st.kind)
      (λ _. hear_kept st.value v.party) (λ _. refl)

  source_same : (s : Source) (o : Option Byte) (k : Kind) → Same (source_in s o k v)
  source_same Sgns o k = cond-elim Same (is_some o) (λ _. refl) (λ _. refl)
  source_same Sdys o k = ready_same o k
  source_same Strs o k = cond-elim Same v.lines.ndac (λ _. refl) (λ _. ended_same v.standing)
  source_same s o k = refl

  takes_same : (st : Option Standing) → Same (takes st v)
  takes_same None = refl
  takes_same (Some st) = cond-elim Same v.lines.atn (λ _. hear_kept st.value v.party) (λ _. refl)

  acceptor_same : (a : Acceptor) → Same (acceptor_in a v)
  acceptor_same Anrs = cond-elim Same (v.lines.atn || not (is_some v.party.input)) (λ _. refl) (λ _. refl)
  acceptor_same Acrs = cond-elim Same v.lines.dav (λ _. takes_same v.standing) (λ _. refl)
  acceptor_same Awns = cond-elim Same v.lines.dav (λ _. refl) (λ _. refl)
  acceptor_same a = refl

  step_same : Same (step v)
  step_same = let t = v.lines.atn in let p = v.party in
      cond-elim Same (is_source t p)
      (λ _. source_same p.source (offer (is_polled t p) p) (kind_of (is_active p) (is_polled t p)))
      (λ _. acceptor_same p.acceptor)

-- the latches that an accepted call leaves its party with: feoi, then reset and a byte through data out; the own status
abbrev pub latched : Call → Latches → Latches
latched (call_of.Of i a) l = let n = act_number a in record {
  feoi = cond (eqb n 15) true (cond (eqb n 10 || eqb n 14) false l.feoi);
  ist = cond (eqb n 19) (is_on (switch_of a)) l.ist;
}
latched c l = l

-- Control goes on from a party, and the interface is cleared by one, whose latches are as they were.
abbrev Fair : After → Party → Party → Type 0
Fair (after.Pass j) p q = steady q ≡ steady p
Fair after.Clear p q = steady q ≡ steady p
Fair x p q = q ≡ q

fair : (x : After) (p q : Party) → steady q ≡ steady p → Fair x p q
fair (after.Pass j) p q e = e
fair after.Clear p q e = e
fair x p q e = refl

-- what a call's effect leaves of its own party
abbrev Leaves : Call → Party → Outcome → Type 0
Leaves c p o = (steady o.party ≡ (p.role.name, latched c p.latches)) × Fair o.after p o.party

abbrev told_by : Effect → Outcome
told_by e = record { said = e.said; after = e.after; party = e.party }

read_leaves : (i : Place) (s : Option Byte) (p : Party) → Leaves (call_of.Of i act_of.Read) p (read_out s p)
read_leaves i None p = (refl, refl)
read_leaves i (Some y) p = (refl, refl)

effect_leaves : (v : View) (c : Call) → Leaves c v.party (told_by (effect_of v c))
effect_leaves v (call_of.Of i act_of.Step) =
    (step_same v, fair (step v).after v.party (step v).party (step_same v))
effect_leaves v (call_of.Of i act_of.Read) = read_leaves i v.party.input v.party
effect_leaves v (call_of.Of i act_of.Reset) = cond-elim (Leaves (call_of.Of i act_of.Reset) v.party)
    (is_active v.party) (λ _. (refl, refl)) (λ _. (refl, refl))
effect_leaves v c = (refl, refl)

pub effect_kept : (v : View) (c : Call)
    → steady (effect_of v c).party ≡ (v.party.role.name, latched c v.party.latches)
effect_kept v c = (effect_leaves v c).0

-- What follows leaves both of every party.
module _ (b : Bus) (i : ℕ) (e : Effect) where
  settled_same : (t : Bool) (ps : List Party) (j : ℕ)
      → steady (at (each b.count (settled t) ps) j) ≡ steady (at ps j)
  settled_same t ps = each_part steady b.count (settled t) ps (λ p. refl)

  attended_same : (ps : List Party) (j : ℕ) → let t = some b.count is_active ps in steady (at
      (each b.count (settled t) (each b.count (attended t) ps)) j) ≡ steady (at ps j)
  attended_same ps j = let t = some b.count is_active ps in
      settled_same t (each b.count (attended t) ps) j ∙ each_part steady b.count (attended t) ps (λ p. refl) j

  followed_same : (x : After) → Fair x (here b i) e.party → (t : Bool) (j : ℕ)
      → steady (here (followed x t b i e).bus j) ≡ steady (at (set b.parties i e.party) j)
  followed_same (after.Pass k) f t j =
      let left = set b.parties i (change_control Idle e.party) in
      let same = set_part steady b.parties i (change_control Idle e.party) f in
      attended_same (set left k.0 (change_control Active (here b k.0))) j
      ∙ set_part steady left k.0 (change_control Active (here b k.0)) (sym (same k.0)) j ∙ same j
      ∙ sym (set_part steady b.parties i e.party f j)
  followed_same after.Attend f t j = attended_same (set b.parties i e.party) j
  followed_same after.Clear f t j =
      let all = each b.count cleared b.parties in
      let same = each_part steady b.count cleared b.parties (λ p. refl) in
      attended_same (set all i e.party) j ∙ set_part steady all i e.party (f ∙ sym (same i)) j ∙ same j
      ∙ sym (set_part steady b.parties i e.party f j)
  followed_same x f t j = settled_same t (set b.parties i e.party) j

-- An accepted call leaves every name, and of the latches those that are not its own party's.
pub accepted_kept : (b : Bus) (c : Call) (j : ℕ) → let v = m.view_at (place_of c) (lines b) b in
    steady (here (m.accepted (lines b) b c).bus j)
    ≡ steady (at (set b.parties (place_of c).0 (effect_of v c).party) j)
accepted_kept b c j = let v = m.view_at (place_of c) (lines b) b in let e = effect_of v c in
    followed_same b (place_of c).0 e e.after (effect_leaves v c).1 (lines b).atn j
