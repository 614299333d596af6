-- Demand 3, one statement over whole lists of calls: one driver of DAV and of ATN, delivery, totals. What is quoted is
-- the demand itself, and document 01's words for it.
-- Calls of a list are counted from 0. `i` is a call that puts a byte up, `k` and `l` calls that come later, `p` and `q`
-- parties.
-- Assumes nothing.
use Rattle.std.specs.Prelude.{◌≡◌, Bool, true, false, ◌&&◌, ◌||◌, List, [], ◌∷◌, ◌⊎◌, ℕ, ◌+◌, ◌<◌, eqb, length}
use Rattle.std.specs.Prelude.{get_or, take}
use Rattle.party.specs.Parts.{one, held_bytes}
use Rattle.parties.specs.Places.{place, total}
use Rattle.bus.specs.Types.{Place, Name, Active, Strs, Acrs, Acds, Event, Bus, Answer, Call, Verdict}
use Rattle.bus.specs.Types.ev
use Rattle.bus.specs.Types.call_of
use Rattle.bus.specs.Types.act_of
use Rattle.effect.specs.Calls.{is_accepted, act_number}
use Rattle.bus.specs.Record.{here, accept, build_extended}
use Rattle.effect.specs.Stands.{stands}
use Rattle.bus.specs.Machine as m
use Rattle.std.specs.Prelude.{Some, Ok}
use Rattle.offer.specs.Offer.{byte}

-- What an event says of a byte: "A byte is put up by a step with event cmd, data or stat"; "event took, heard, clear or
-- trigger"; "event ended or passed (it ended accepted)".
pub data Deed : Type 0 where
  puts_host puts_status takes ends neither : Deed

abbrev pub deed : Event → Deed
deed ev.None = neither
deed ev.Moved = neither
deed ev.Cmd = puts_host
deed ev.Data = puts_host
deed ev.Stat = puts_status
deed ev.Took = takes
deed ev.Heard = takes
deed ev.Clear = takes
deed ev.Trigger = takes
deed ev.Ended = ends
deed ev.Passed = ends
deed ev.Noacc = neither
deed ev.Read = neither
deed ev.Lines = neither

abbrev pub is_put : Event → Bool
is_put x = elim (deed x) [ puts_host ↦ true | puts_status ↦ true | takes ↦ false | ends ↦ false | neither ↦ false ]

-- "Puts are the events cmd, data and stat, status bytes the events stat": a byte put up that is no status byte.
abbrev pub is_host_put : Event → Bool
is_host_put x =
    elim (deed x) [ puts_host ↦ true | puts_status ↦ false | takes ↦ false | ends ↦ false | neither ↦ false ]

abbrev pub is_take : Event → Bool
is_take x = elim (deed x) [ puts_host ↦ false | puts_status ↦ false | takes ↦ true | ends ↦ false | neither ↦ false ]

abbrev pub is_end : Event → Bool
is_end x = elim (deed x) [ puts_host ↦ false | puts_status ↦ false | takes ↦ false | ends ↦ true | neither ↦ false ]

-- The host's own write, or one through the chip's data out (document 02, Q-6).
abbrev pub is_write : Call → Bool
is_write (call_of.Of p a) = eqb (act_number a) 2 || eqb (act_number a) 14
is_write call_of.Lines = false
is_write call_of.Drivers = false

-- "Host bytes accepted are the accepted writes."
abbrev pub wrote : Call → Verdict → ℕ
wrote c r = one (is_write c && is_accepted r)

-- One call of a list: the bus that it got, and its answer.
pub record Moment : Type 0 where
  pub before : Bus
  pub call : Call
  pub answer : Answer

abbrev pub history : Bus → List Call → List Moment
history b [] = []
history b (c ∷ cs) = record { before = b; call = c; answer = m.call b c } ∷ history (m.call b c).bus cs

-- A figure summed over the calls of a list.
abbrev pub tally : (Moment → ℕ) → List Moment → ℕ
tally f [] = 0
tally f (x ∷ xs) = f x + tally f xs

-- "held is the number of its parties with a held byte"
abbrev pub held : Bus → ℕ
held b = total b.count held_bytes b.parties

-- The calls cs on the bus b.
module _ (b : Bus) (cs : List Call) where
  -- Call k. Past the list's end it is a call that does nothing.
  abbrev pub moment : ℕ → Moment
  moment k = get_or (history b cs) k (record { before = b; call = call_of.Lines; answer = accept b })

  abbrev pub bus_at : ℕ → Bus
  bus_at k = (moment k).before

  abbrev pub answer_at : ℕ → Answer
  answer_at k = (moment k).answer

  -- The bus after the first k calls, and after all of them.
  abbrev pub bus_after : ℕ → Bus
  bus_after k = m.run b (take k cs)

  abbrev pub last_bus : Bus
  last_bus = m.run b cs

  -- "A byte is put up by a step with event cmd, data or stat": call i puts one up.
  abbrev pub PutAt : ℕ → Type 0
  PutAt i = (i < length cs) × (is_put (answer_at i).event ≡ true)

  -- "event ended or passed (it ended accepted)"; "broken 1 (it was broken off)": so ends what stands when call k comes.
  abbrev pub EndsAt : ℕ → Type 0
  EndsAt k = is_end (answer_at k).event ≡ true

  abbrev pub BreaksAt : ℕ → Type 0
  BreaksAt k = (answer_at k).broken ≡ 1

  -- "It stands from then until the next answer with event ended or passed .. or with broken 1": what call i put up
  -- stands when call k comes.
  abbrev pub StandsAt : ℕ → ℕ → Type 0
  StandsAt i k = PutAt i × (i < k) × ((j : ℕ) → i < j → j < k → (EndsAt j ⊎ BreaksAt j) → ⊥)

  -- "A party takes a byte by its step from ACRS to ACDS, with event took, heard, clear or trigger": party p takes by
  -- call k.
  abbrev pub TakesAt : ℕ → ℕ → Type 0
  TakesAt p k = (k < length cs) × ((moment k).call ≡ call_of.Of (place p) act_of.Step)
      × (is_take (answer_at k).event ≡ true)

  -- "Ready means that its acceptor was in ACRS when the byte was put": party p, for what call i put up.
  abbrev pub ReadyAt : ℕ → ℕ → Type 0
  ReadyAt p i = (here (bus_at i) p).acceptor ≡ Acrs

  -- "an accepted listen-only off", "an accepted reset of it": by call k party p leaves.
  abbrev pub LeavesAt : ℕ → ℕ → Type 0
  LeavesAt p k = ((answer_at k).verdict ≡ Ok tt)
      × (((moment k).call ≡ call_of.Of (place p) (act_of.ListenOnly 0))
      ⊎ ((moment k).call ≡ call_of.Of (place p) act_of.Reset))

  -- "a party stayed if no accepted listen-only off and no accepted reset of it came while the byte stood": from its
  -- putting i to call e.
  abbrev pub StayedFrom : ℕ → ℕ → ℕ → Type 0
  StayedFrom p i e = (k : ℕ) → i < k → k < e → LeavesAt p k → ⊥

  -- By call k party p took what call i put up.
  pub record Taken (p k i : ℕ) : Type 0 where
    -- "nothing is taken but a byte that stands"
    pub stands : StandsAt i k
    -- "What a party takes is the byte last put up before": no put lies between.
    pub last : (j : ℕ) → i < j → j < k → PutAt j → ⊥
    -- taken "by each party ready at its putting and by no other"
    pub ready : ReadyAt p i
    -- "from ACRS to ACDS"
    pub from : (here (bus_at k) p).acceptor ≡ Acrs
    pub to : (here (answer_at k).bus p).acceptor ≡ Acds
    -- "value and END are those in the answers to the put and to the taking step"
    pub value : (answer_at k).byte ≡ (answer_at i).byte
    pub end : (answer_at k).end ≡ (answer_at i).end
    -- "and for took also those then in data-in"
    pub input : (answer_at k).event ≡ ev.Took → (here (answer_at k).bus p).input
        ≡ Some (byte (answer_at i).byte (answer_at i).end)

  -- Demand 3 for this list.
  pub record Delivered : Type 0 where
    -- "at most one party drives DAV, at most one ATN": on every bus of the list. "A party drives DAV in STRS, and ATN
    -- when it is active."
    pub one_dav : (k p q : ℕ) → (here (bus_after k) p).source ≡ Strs → (here (bus_after k) q).source ≡ Strs → p ≡ q
    pub one_atn : (k p q : ℕ) → (here (bus_after k) p).control ≡ Active → (here (bus_after k) q).control ≡ Active
        → p ≡ q
    -- "nothing is taken but a byte that stands", and what is taken is as `Taken` says
    pub taken : (p k : ℕ) → TakesAt p k → (i : ℕ) × Taken p k i
    -- nor is anything taken unsaid: who goes from ACRS to ACDS in a call took by its own step, with event took, heard,
    -- clear or trigger
    pub silent : (p k : ℕ) → k < length cs → (here (bus_at k) p).acceptor ≡ Acrs
        → (here (answer_at k).bus p).acceptor ≡ Acds → TakesAt p k
    -- "every byte put up was taken at most once by each party"
    pub once : (p i k l : ℕ) → StandsAt i k → StandsAt i l → TakesAt p k → TakesAt p l → k ≡ l
    -- "a byte that ended accepted was taken exactly once by each party that was ready and stayed": some call takes it,
    -- and by `once` no other
    pub everyone : (p i e : ℕ) → StandsAt i e → e < length cs → EndsAt e → ReadyAt p i → StayedFrom p i e
        → (k : ℕ) × ((k < e) × TakesAt p k × Taken p k i)
    -- "what was taken .. in the order of putting"
    pub ordered : (p k l i j : ℕ) → k < l → TakesAt p k → Taken p k i → TakesAt p l → Taken p l j → i < j
    -- "puts = ended + broken off + standing"
    pub puts :
        tally (λ x. one (is_put x.answer.event)) (history b cs)
        ≡ tally (λ x. one (is_end x.answer.event)) (history b cs) + tally (λ x. x.answer.broken) (history b cs)
        + one (stands last_bus.standing)
    -- "host bytes accepted = bytes put up without status bytes + dropped + held"
    pub bytes :
        tally (λ x. wrote x.call x.answer.verdict) (history b cs)
        ≡ tally (λ x. one (is_host_put x.answer.event)) (history b cs)
        + tally (λ x. x.answer.dropped) (history b cs) + held last_bus

-- Demand 3: "For every list of steps and host calls (any order, refused ones included, no build) from a bus that an
-- accepted build gave", with secondaries or without.
abbrev pub Delivery : Type 0
Delivery = (names : List Name) (system : Place) → (build_extended names system).verdict ≡ Ok tt
    → (cs : List Call) → Delivered (build_extended names system).bus cs
