-- The invariant of every bus that an accepted build and any calls lead to, and what settling keeps of it.
-- Assumes nothing.
use mathlib.Core.Path.{◌≡◌, refl, sym, ap, ◌∙◌, subst₂}
use mathlib.Core.Bool.{Bool, true, false, cond, ◌&&◌, ◌||◌}
use mathlib.Core.List.{List}
use Prim.Native.Nat.{ℕ, ◌≤◌, ◌<◌}
use native.Mathlib.Omega.{arith}
use lib.ListN.{length}
use lib.Dec.{eqb}
use borrow.Author.Tests.{eqb-true, eq-eqb}
use Rattle.message.specs.Meaning.{address, meaning_of}
use Rattle.names.specs.Names.{plain}
use Rattle.message.specs.declared.Meaning.TheVariants.{Other}
use Rattle.party.specs.Parts.{idle}
use Rattle.party.specs.Driving.{active, dav_at, is_active}
use Rattle.role.specs.Roles.{role_heard}
use Rattle.party.specs.Sending.{is_source, is_polled}
use Rattle.party.specs.Settling.{settled}
use Rattle.role.proofs.Logic.{no, test}
use Rattle.role.proofs.Roles.{Single, Apart, Addressed, weak_same, weaken}
use Rattle.party.proofs.Settled.{newborn_still, settled_strs, settled_keeps, settled_other, settled_twice}
use Rattle.party.proofs.Settled.{source_of_active}
use Rattle.parties.specs.Places.{at, some, each}
use Rattle.parties.proofs.Places.{at_each_all, some_each, length_each}
use Rattle.bus.specs.Types.{Party, Control, Idle, Standby, Active, Source, Sids, Strs}
use Rattle.bus.specs.Types.{Acceptor, Aids, Anrs, Acrs}
use Rattle.bus.specs.Types.{Kind, Data, Status, Meaning, Role, Standing, Bus, Said}
use Rattle.bus.specs.Record.{here}
use Rattle.effect.specs.Stands.{stands, has_end, of_command}
use Rattle.bus.specs.Settling.{deserted, settle_bus}
use Rattle.bus.proofs.Looking.{not_true, not_false}
use Rattle.std.specs.Prelude.{Option, Some, None, is_some}

-- in charge of the bus, now or once it takes control again
abbrev pub busy : Control → Bool
busy Idle = false
busy c = true

pub active_busy : (p : Party) → is_active p ≡ true → busy p.control ≡ true
active_busy p = go p.control
  where
    go : (c : Control) → elim c [ Idle ↦ false | Standby ↦ false | Active ↦ true ] ≡ true → busy c ≡ true
    go Idle e = e
    go c e = refl

abbrev pub sent_by : ℕ → Option Standing → Bool
sent_by j None = false
sent_by j (Some st) = eqb j st.sender.0

pub one_sender : (st : Option Standing) (p q : ℕ) → sent_by p st ≡ true → sent_by q st ≡ true → p ≡ q
one_sender None p q e f = no (cc)
one_sender (Some st) p q e f = eqb-true p st.sender.0 e ∙ sym (eqb-true q st.sender.0 f)

abbrev pub of_status : Kind → Bool
of_status Status = true
of_status k = false

abbrev pub of_data : Kind → Bool
of_data Data = true
of_data k = false

-- what stands is of a kind
abbrev pub stands_of : (Kind → Bool) → Option Standing → Bool
stands_of f None = false
stands_of f (Some st) = f st.kind

abbrev pub is_command : Option Standing → Bool
is_command st = stands_of of_command st

abbrev pub code_of : Option Standing → Meaning
code_of None = Other
code_of (Some st) = meaning_of st.value

abbrev pub in_acrs : Acceptor → Bool
in_acrs Acrs = true
in_acrs a = false

pub is_acrs : (a : Acceptor) → in_acrs a ≡ true → a ≡ Acrs
is_acrs Acrs e = refl
is_acrs a e = no (cc)

pub is_strs : (s : Source) → dav_at s ≡ true → s ≡ Strs
is_strs Strs e = refl
is_strs s e = no (cc)

pub is_active_lem : (c : Control) → active c ≡ true → c ≡ Active
is_active_lem Active e = refl
is_active_lem c e = no (cc)

-- party j has yet to hear what stands
abbrev pub waits : Option Standing → ℕ → Acceptor → Bool
waits st j x = is_command st && (sent_by j st || in_acrs x)

-- the role that party j will have once it has heard what stands
abbrev pub look : Option Standing → ℕ → Party → Role
look st j p = cond (waits st j p.acceptor) (role_heard (code_of st) p.role) p.role

-- What each call keeps, before settling: n parties, seen place by place as v; atn is the line; st is what stands.
pub record Pre (n : ℕ) (atn : Bool) (v : ℕ → Party) (st : Option Standing) : Type 0 where
  -- a place without a party drives no line and never talks
  pub tail : (j : ℕ) → n ≤ j → v j ≡ idle
  -- with ATN false nobody is active, so the only source is who has talk on
  pub atn_if : (j : ℕ) → is_active (v j) ≡ true → atn ≡ true
  -- one party at most is active or in standby: one driver of ATN, also after take control
  pub charge : (i j : ℕ) → busy (v i).control ≡ true → busy (v j).control ≡ true → i ≡ j
  -- no two parties answer to the same bytes, so a talk address with its secondary turns one talk on at most
  pub addr : Apart n (λ j. (v j).role)
  -- who is in STRS sent what stands: one driver of DAV
  pub sends : (j : ℕ) → (v j).source ≡ Strs → sent_by j st ≡ true
  -- while a byte stands its sender is in STRS: DAV is true, so a joiner starts in AWNS
  pub sent : (j : ℕ) → sent_by j st ≡ true → (v j).source ≡ Strs
  -- what stands is a command exactly under ATN, so that what is taken as data was sent as data
  pub kind : stands st ≡ true → is_command st ≡ atn
  -- the sender of a command is active, so settling never breaks a command off
  pub leads : is_command st ≡ true → (j : ℕ) → sent_by j st ≡ true → is_active (v j) ≡ true
  -- nobody can come to ACRS while a byte stands: no byte is taken twice, or by a late joiner
  pub no_anrs : stands st ≡ true → (j : ℕ) → (v j).acceptor ≡ Anrs → ⊥
  -- the active party does not take its own command
  pub active : (j : ℕ) → is_active (v j) ≡ true → (v j).acceptor ≡ Aids
  -- under ATN every other party takes part in the handshake, so nobody misses a command
  pub others : atn ≡ true → (j : ℕ) → j < n → is_active (v j) ≡ false → (v j).acceptor ≡ Aids → ⊥
  -- with ATN false who does not listen takes no part: switching listen on never leaves ACRS
  pub listens : atn ≡ false → (j : ℕ) → (v j).role.listen ≡ false → (v j).acceptor ≡ Aids
  -- with ATN false a listener takes part, so a byte that has a listener is put
  pub joins : atn ≡ false → (j : ℕ) → (v j).role.listen ≡ true → (v j).acceptor ≡ Aids → ⊥
  -- once all have heard what stands, one party at most talks, and no secondary can make a second one talk
  pub heard : Addressed atn (λ j. look st j (v j))
  -- a talker does not listen: its own acceptor never holds its byte up
  pub apart : (j : ℕ) → Single (v j).role
  -- a ready acceptor of data has room for it
  pub empty : atn ≡ false → (j : ℕ) → (v j).acceptor ≡ Acrs → is_some (v j).input ≡ false
  -- END comes with data alone
  pub plain : has_end st ≡ true → stands_of of_data st ≡ true
  -- a polled sender put a status byte up, and as long as it is a source the sender of a status byte is polled
  pub polled : (j : ℕ) → sent_by j st ≡ true → is_polled atn (v j) ≡ true → stands_of of_status st ≡ true
  pub polls : (j : ℕ) → sent_by j st ≡ true → stands_of of_status st ≡ true → is_source atn (v j) ≡ true
      → is_polled atn (v j) ≡ true

-- a party that is no source is in SIDS
abbrev pub Quiet : Bool → (ℕ → Party) → Type 0
Quiet atn v = (j : ℕ) → is_source atn (v j) ≡ false → (v j).source ≡ Sids

-- every party has settled
abbrev pub Still : Bool → (ℕ → Party) → Type 0
Still atn v = (j : ℕ) → settled atn (v j) ≡ v j

-- the line ATN
abbrev pub atn_of : Bus → Bool
atn_of b = some b.count is_active b.parties

pub record Inv (b : Bus) : Type 0 where
  -- there are fifteen places, and the parties fit them, so that a store to a party's place is seen
  pub size : length b.parties ≡ 15
  pub small : b.count ≤ 15
  -- what each call keeps, with the line ATN as it is now
  pub pre : Pre b.count (atn_of b) (here b) b.standing
  -- settling again changes nothing: a call that changes one party changes no other
  pub still : Still (atn_of b) (here b)

pub quiet : (b : Bus) → Inv b → Quiet (atn_of b) (here b)
quiet b I j h = sym (ap (λ (p : Party). p.source) (I.still j)) ∙ settled_other (atn_of b) (here b j) h

-- no command stands: every role is as it looks
pub look_idle : (st : Option Standing) → is_command st ≡ false → (j : ℕ) (p : Party) → look st j p ≡ p.role
look_idle st c j p = rw c

pub same_heard : {atn : Bool} (u w : ℕ → Role) → ((j : ℕ) → u j ≡ w j) → Addressed atn w → Addressed atn u
same_heard u w h = weaken w u (λ j. weak_same (w j) (u j) (h j))

pub settled_idle : (t : Bool) → settled t idle ≡ idle
settled_idle t = newborn_still t (plain (address 0))

module _ (n : ℕ) (atn : Bool) (v : ℕ → Party) where
  -- settling breaks off what stands: its sender is no source any more
  broken_pre : (st : Option Standing) → is_command st ≡ false → Pre n atn v st
      → ((j : ℕ) → is_source atn (v j) ≡ true → (v j).source ≡ Strs → ⊥) → Pre n atn (λ j. settled atn (v j)) None
  broken_pre st c P h = record {
    tail = λ j l. ap (settled atn) (P.tail j l) ∙ settled_idle atn;
    atn_if = P.atn_if;
    charge = P.charge;
    addr = P.addr;
    sends = λ j e. let s = settled_strs atn (v j) e in absurd (h j s.1 s.0);
    sent = λ j e. no (cc);
    kind = λ e. no (cc);
    leads = λ e. no (cc);
    no_anrs = λ e. no (cc);
    active = P.active;
    others = P.others;
    listens = P.listens;
    joins = P.joins;
    heard = same_heard (λ j. (v j).role) (λ j. look st j (v j)) (λ j. sym (look_idle st c j (v j))) P.heard;
    apart = P.apart;
    empty = P.empty;
    plain = λ e. no (cc);
    polled = λ j e. no (cc);
    polls = λ j e. no (cc);
  }

  -- settling lets stand what stands
  pub kept_pre : (st : Option Standing) → Pre n atn v st → ((j : ℕ) → sent_by j st ≡ true → is_source atn (v j) ≡ true)
      → Pre n atn (λ j. settled atn (v j)) st
  kept_pre st P h = record {
    tail = λ j l. ap (settled atn) (P.tail j l) ∙ settled_idle atn;
    atn_if = P.atn_if;
    charge = P.charge;
    addr = P.addr;
    sends = λ j e. P.sends j (settled_strs atn (v j) e).0;
    sent = λ j e. settled_keeps atn (v j) (P.sent j e) (h j e);
    kind = P.kind;
    leads = P.leads;
    no_anrs = P.no_anrs;
    active = P.active;
    others = P.others;
    listens = P.listens;
    joins = P.joins;
    heard = P.heard;
    apart = P.apart;
    empty = P.empty;
    plain = P.plain;
    polled = P.polled;
    polls = P.polls;
  }

-- the list after settling
module _ (n : ℕ) (ps : List Party) (l : n ≤ length ps) (tail : (j : ℕ) → n ≤ j → at ps j ≡ idle) (t : Bool) where
  as_seen : at (each n (settled t) ps) ≡ (λ j. settled t (at ps j))
  as_seen = at_each_all n (settled t) ps (settled_idle t) l tail

  pub seen : (st : Option Standing) → some n is_active ps ≡ t → Pre n t (λ j. settled t (at ps j)) st
      → Pre n (some n is_active (each n (settled t) ps)) (at (each n (settled t) ps)) st
  seen st e P = subst₂ (λ (x : Bool) (w : ℕ → Party). Pre n x w st)
      (sym (some_each n is_active (settled t) ps (λ p. refl) ∙ e)) (sym as_seen) P

  pub seen_still : some n is_active ps ≡ t → Still (some n is_active (each n (settled t) ps)) (at (each n (settled t)
      ps))
  seen_still e = subst₂ (λ (x : Bool) (w : ℕ → Party). Still x w)
      (sym (some_each n is_active (settled t) ps (λ p. refl) ∙ e)) (sym as_seen) (λ j. settled_twice t (at ps j))

-- settling makes the invariant of what a call keeps
pub settle_inv : (b : Bus) (t : Bool) (s : Said) (ps : List Party) (st : Option Standing) → length ps ≡ 15
    → b.count ≤ 15
    → some b.count is_active ps ≡ t → Pre b.count t (at ps) st → Inv (settle_bus t b s ps st).bus
settle_inv b t s ps st z l a P = record {
  size = length_each b.count (settled t) ps ∙ z;
  small = l;
  pre = seen b.count ps fits P.tail t (cond (deserted t ps st) None st) a (go st P (deserted t ps st) refl);
  still = seen_still b.count ps fits P.tail t a;
}
  where
    fits : b.count ≤ length ps
    fits = omega arith

    go : (st : Option Standing) → Pre b.count t (at ps) st → (x : Bool) → deserted t ps st ≡ x
        → Pre b.count t (λ j. settled t (at ps j)) (cond x None st)
    go st P false e = kept_pre b.count t (at ps) st P (source st e)
      where
        source : (st : Option Standing) → deserted t ps st ≡ false → (j : ℕ) → sent_by j st ≡ true
            → is_source t (at ps j) ≡ true
        source None e j h = no (cc)
        source (Some st) e j h = rw (eqb-true j st.sender.0 h) (not_false (is_source t (at ps st.sender.0)) e)
    go st P true e = broken_pre b.count t (at ps) st (plain st P e) P (λ j h r. lost st P e j (P.sends j r) h)
      where
        plain : (st : Option Standing) → Pre b.count t (at ps) st → deserted t ps st ≡ true → is_command st ≡ false
        plain None P e = refl
        plain (Some st) P e = test (is_command (Some st)) (λ q. let r = st.sender.0 in
            let a = source_of_active t (at ps r) (P.leads q r (eq-eqb r r refl)) in
            let y = not_true (is_source t (at ps r)) e in no (cc)) (λ q. q)

        lost : (st : Option Standing) → Pre b.count t (at ps) st → deserted t ps st ≡ true → (j : ℕ)
            → sent_by j st ≡ true
            → is_source t (at ps j) ≡ true → ⊥
        lost None P e j h a = no (cc)
        lost (Some st) P e j h a = let q = eqb-true j st.sender.0 h in
            let y = not_true (is_source t (at ps st.sender.0)) e in no (cc)
