-- The request for service (document 01, "Attention and settling").
-- Assumes nothing.
use Rattle.std.specs.Prelude.{ℕ, ◌+◌, ◌*◌, ◌/◌, ◌%◌, Bool, false, not, cond, ◌&&◌, ◌||◌, eqb}
use Rattle.service.specs.declared.Service.{Service}
use Rattle.service.specs.declared.Service.TheVariants.{Nprs, Srqs, Aprs}
use Rattle.service.specs.declared.Request.{Request}

-- "rsv meaning bit 64 of live"
abbrev pub rsv : ℕ → Bool
rsv live = eqb (live / 64 % 2) 1

-- "NPRS to SRQS if rsv and not polled; SRQS to APRS if polled, to NPRS if neither rsv nor polled; APRS to NPRS if
-- neither rsv nor polled."
abbrev pub service_settled : Service → Bool → Bool → Service
service_settled Nprs r polled = cond (r && not polled) Srqs Nprs
service_settled Srqs r polled = cond polled Aprs (cond r Srqs Nprs)
service_settled Aprs r polled = cond (r || polled) Aprs Nprs

-- "Unless polled, live becomes saved. Then one change of service at most".
abbrev pub live_settled : Bool → Request → ℕ
live_settled polled q = cond polled q.live q.saved

-- Document 02, Q-5: "The service rules use bit 64 of live, or rsv2."
abbrev pub asks : ℕ → Bool → Bool
asks live rsv2 = rsv live || rsv2

abbrev pub request_settled : Bool → Request → Request
request_settled polled q = record q {
  live = live_settled polled q;
  service = service_settled q.service (asks (live_settled polled q) q.rsv2) polled;
}

-- "A status byte is live without bit 64, plus 64 in APRS."
abbrev pub aprs_bit : Service → ℕ
aprs_bit Nprs = 0
aprs_bit Srqs = 0
aprs_bit Aprs = 64

abbrev pub status : Request → ℕ
status q = q.live / 128 * 128 + q.live % 64 + aprs_bit q.service

-- "Poll register: sets saved."
abbrev pub with_saved : ℕ → Request → Request
with_saved v q = record q { saved = v }

-- Document 02, Q-5: "A new host call switches it with 0 or 1."
abbrev pub with_rsv2 : Bool → Request → Request
with_rsv2 on q = record q { rsv2 = on }

-- "Putting a status byte in APRS clears rsv2 in that same step."
abbrev pub rsv2_kept : Service → Bool → Bool
rsv2_kept Nprs on = on
rsv2_kept Srqs on = on
rsv2_kept Aprs on = false

-- The request once its status byte is put.
abbrev pub reported : Request → Request
reported q = with_rsv2 (rsv2_kept q.service q.rsv2) q
