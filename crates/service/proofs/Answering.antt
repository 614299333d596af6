-- The second request bit of one request: it asks, waits through polls, is answered by a status byte, and asks no more.
-- Bit 64 of live is clear.
-- Assumes nothing.
use mathlib.Core.Path.{◌≡◌, refl}
use mathlib.Core.Bool.{Bool, true, false, cond}
use Prim.Native.Nat.{ℕ, ◌+◌, ◌*◌, ◌/◌, ◌%◌}
use native.Mathlib.Omega.{arith}
use borrow.Author.Tests.{eq-eqb, ne_eqb}
use Rattle.service.specs.declared.Service.{Service}
use Rattle.service.specs.declared.Service.TheVariants.{Nprs, Srqs, Aprs}
use Rattle.service.specs.declared.Request.{Request}
use Rattle.service.specs.Service.{rsv, asks, service_settled, request_settled, status, reported, rsv2_kept}

-- settling leaves the bit, in a poll and outside
pub bit_settled : (polled : Bool) (q : Request) → (request_settled polled q).rsv2 ≡ q.rsv2
bit_settled polled q = refl

-- where bit 64 of live is clear, the bit alone asks
pub bit_asks : (live : ℕ) (on : Bool) → rsv live ≡ false → asks live on ≡ on
bit_asks live on h = rw h

-- switched on outside a poll it is on SRQ; it goes off SRQ when a poll begins, and is in APRS from then on, in polls
-- and between them
pub nprs_asks : service_settled Nprs true false ≡ Srqs
nprs_asks = refl

pub srqs_asks : (polled : Bool) → service_settled Srqs true polled ≡ cond polled Aprs Srqs
srqs_asks true = refl
srqs_asks false = refl

pub aprs_asks : (polled : Bool) → service_settled Aprs true polled ≡ Aprs
aprs_asks true = refl
aprs_asks false = refl

-- answered, it is in APRS to the end of the poll, and in NPRS after it
pub aprs_over : (polled : Bool) → service_settled Aprs false polled ≡ cond polled Aprs Nprs
aprs_over true = refl
aprs_over false = refl

pub nprs_over : (polled : Bool) → service_settled Nprs false polled ≡ Nprs
nprs_over true = refl
nprs_over false = refl

-- a status byte answers it in APRS, and in NPRS leaves it
pub aprs_answers : (q : Request) → q.service ≡ Aprs → (reported q).rsv2 ≡ false
aprs_answers q h = rw h

pub nprs_leaves : (q : Request) → q.service ≡ Nprs → reported q ≡ q
nprs_leaves q h = rw h

-- nothing that a status byte does switches it on
pub stays_off : (s : Service) → rsv2_kept s false ≡ false
stays_off Nprs = refl
stays_off Srqs = refl
stays_off Aprs = refl

-- bit 64 of a status byte is that of APRS, whatever live has
pub status_set : (q : Request) → q.service ≡ Aprs → rsv (status q) ≡ true
status_set q s = rw s (eq-eqb ((q.live / 128 * 128 + q.live % 64 + 64) / 64 % 2) 1 (omega arith))

pub status_clear : (q : Request) → q.service ≡ Nprs → rsv (status q) ≡ false
status_clear q s = rw s (ne_eqb ((q.live / 128 * 128 + q.live % 64 + 0) / 64 % 2) 1 (λ h. omega arith))
