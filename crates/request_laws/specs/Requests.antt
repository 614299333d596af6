-- The user's condition on the second request bit (document 02, Q-5), one statement over whole lists of calls.
-- Calls of a list are counted from 0, as in demand 3. `r` is the call that switches the request on, `k` and `l` are
-- calls that come later, `s` and `e` the first and the last call of a poll, `p` is the party.
-- Assumes nothing.
use Rattle.std.specs.Prelude.{◌≡◌, Bool, true, false, List, ◌⊎◌, ℕ, suc, ◌<◌, ◌≤◌, length, Ok}
use Rattle.service.specs.declared.Service.TheVariants.{Nprs, Srqs, Aprs}
use Rattle.service.specs.declared.Request.{Request}
use Rattle.service.specs.Service.{rsv}
use Rattle.party.specs.Sending.{is_polled}
use Rattle.parties.specs.Places.{place}
use Rattle.bus.specs.declared.Bus.{Bus}
use Rattle.bus.specs.Types.{Call}
use Rattle.bus.specs.Types.ev
use Rattle.bus.specs.Types.call_of
use Rattle.bus.specs.Types.act_of
use Rattle.bus.specs.Record.{here, lines}
use Rattle.bus.specs.Delivery.{moment, bus_at, answer_at}
use Rattle.runner.specs.Waiting.{TieOrder}
use Rattle.runner.specs.Lists.{Item, expanded, LedTo}

-- "Polled: ATN false, talk and poll mode on": party p of a bus.
abbrev pub polled_on : Bus → ℕ → Bool
polled_on b p = is_polled (lines b).atn (here b p)

-- The calls cs on the bus b, and party p.
module _ (b : Bus) (cs : List Call) (p : ℕ) where
  -- The poll register, the second request bit and the service of party p when call k comes.
  abbrev pub request_at : ℕ → Request
  request_at k = (here (bus_at b cs k) p).request

  -- Party p is polled when call k comes.
  abbrev pub polled : ℕ → Bool
  polled k = polled_on (bus_at b cs k) p

  -- "A poll here is an unbroken time in which that party is polled": it is polled when each of the calls s to e comes,
  -- and neither before s nor after e.
  pub record Poll (s e : ℕ) : Type 0 where
    pub order : (s ≤ e) × (e < length cs)
    pub unbroken : (j : ℕ) → s ≤ j → j ≤ e → polled j ≡ true
    pub before : (j : ℕ) → suc j ≡ s → polled j ≡ false
    pub after : suc e < length cs → polled (suc e) ≡ false

  -- "status bytes the events stat": by call k party p puts one.
  abbrev pub StatAt : ℕ → Type 0
  StatAt k = (k < length cs) × ((moment b cs k).call ≡ call_of.Of (place p) act_of.Step)
      × ((answer_at b cs k).event ≡ ev.Stat)

  -- "sets the bit": bit 64 of what call k put up.
  abbrev pub bit64 : ℕ → Bool
  bit64 k = rsv (answer_at b cs k).byte

  -- "a request switched on in NPRS outside a poll": by call r.
  pub record AsksAt (r : ℕ) : Type 0 where
    pub there : r < length cs
    pub call : (moment b cs r).call ≡ call_of.Of (place p) (act_of.SecondRequest 1)
    pub accepted : (answer_at b cs r).verdict ≡ Ok tt
    pub nprs : (request_at r).service ≡ Nprs
    pub outside : polled r ≡ false

  -- Call k switches the bit of party p, on or off, or resets it.
  abbrev pub TouchesAt : ℕ → Type 0
  TouchesAt k = ((answer_at b cs k).verdict ≡ Ok tt)
      × (((on : ℕ) × ((moment b cs k).call ≡ call_of.Of (place p) (act_of.SecondRequest on)))
      ⊎ ((moment b cs k).call ≡ call_of.Of (place p) act_of.Reset))

  -- "then neither switched nor reset", "with bit 64 of live and saved clear throughout": from call r until call l
  -- comes. That live has it clear is enough: what saved has shows in live as soon as the party is not polled.
  pub record Left (r l : ℕ) : Type 0 where
    pub untouched : (k : ℕ) → r < k → k < l → TouchesAt k → ⊥
    pub clear : (k : ℕ) → r < k → k ≤ l → rsv (request_at k).live ≡ false

  -- Between call r and call k party p puts no status byte.
  abbrev pub NoneBetween : ℕ → ℕ → Type 0
  NoneBetween r k = (j : ℕ) → r < j → j < k → StatAt j → ⊥

  -- "the first poll that puts one", after the request of call r: it is the poll s to e, and k puts a status byte of it.
  pub record First (r s e k : ℕ) : Type 0 where
    pub asks : AsksAt r
    pub poll : Poll s e
    pub after : r < s
    pub none : NoneBetween r s
    pub puts : StatAt k
    pub within : (s ≤ k) × (k ≤ e)

  -- What a request is that no status byte has answered: the bit is on, the service SRQS until a poll begins, and APRS
  -- from then on.
  pub record Waits (r k : ℕ) : Type 0 where
    pub on : (request_at k).rsv2 ≡ true
    pub srqs : ((j : ℕ) → r < j → j ≤ k → polled j ≡ false) → (request_at k).service ≡ Srqs
    pub aprs : (j : ℕ) → r < j → j ≤ k → polled j ≡ true → (request_at k).service ≡ Aprs

  -- The condition for this list and this party.
  pub record Answered : Type 0 where
    -- "sets the bit in every status byte of the first poll that puts one"
    pub set : (r s e k : ℕ) → First r s e k → Left r k → bit64 k ≡ true
    -- "and of no later poll"
    pub unset : (r s e k l : ℕ) → First r s e k → e < l → StatAt l → Left r l → bit64 l ≡ false
    -- A poll that puts none takes nothing from the request, which waits for the next. It takes the party off SRQ.
    pub waits : (r k : ℕ) → AsksAt r → r < k → k < length cs → NoneBetween r k → Left r k → Waits r k
    -- "Putting a status byte in APRS clears rsv2 in that same step." One put in NPRS clears nothing: a request that was
    -- switched on during that poll outlasts it.
    pub clears : (k : ℕ) → StatAt k → (request_at k).service ≡ Aprs
        → (here (answer_at b cs k).bus p).request.rsv2 ≡ false
    pub spares : (k : ℕ) → StatAt k → (request_at k).service ≡ Nprs
        → (here (answer_at b cs k).bus p).request.rsv2 ≡ (request_at k).rsv2
    -- Every status byte is put in a poll, so that the first and the later ones are all there are.
    pub polls : (l : ℕ) → StatAt l → (s : ℕ) × (e : ℕ) × (Poll s e × (s ≤ l) × (l ≤ e))

-- The user's condition: from every bus that a start, calls and runs lead to, the start itself among them, for every
-- list of calls and every party.
abbrev pub RequestsAnswered : Type 0
RequestsAnswered = (b : Bus) → LedTo b → (cs : List Call) (p : ℕ) → Answered b cs p

-- The same for every list of calls and runs: "In a list of demand 3 a run stands for its steps" (document 02, Q-1).
abbrev pub RequestsAnsweredWithRuns : Type 0
RequestsAnsweredWithRuns = (b : Bus) → LedTo b → (tie : Bus → TieOrder) (xs : List Item) (p : ℕ)
    → Answered b (expanded tie b xs) p
